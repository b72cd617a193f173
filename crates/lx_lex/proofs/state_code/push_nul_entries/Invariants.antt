use Rattle.lx_c.proofs.Texts.{HasTexts}
use Rattle.lx_lex.specs.Arrays.{entry_text}
use Rattle.lx_automaton.specs.Automata.{target_of}
use Rattle.lx_lex.specs.StateCode.{state_word}
use Rattle.lx_lex.proofs.state_code.push_nul_entries.Given as goal

abbrev pub invariant-loop-state : goal.invariant-loop-state
invariant-loop-state l = HasTexts (λ s. entry_text (state_word (target_of l.tables.machine s 0))) l.fn.text.items l.text.items l.state
