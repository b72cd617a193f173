use Rattle.lx_c.proofs.Texts.{HasTexts}
use Rattle.lx_lex.specs.Arrays.{entry_text}
use Rattle.lx_automaton.specs.Automata.{accepted_by}
use Rattle.lx_c.specs.Words.{rule_word}
use Rattle.lx_lex.proofs.state_code.push_accept_entries.Given as goal

abbrev pub invariant-loop-state : goal.invariant-loop-state
invariant-loop-state l = HasTexts (λ s. entry_text (rule_word (accepted_by l.tables.machine s))) l.fn.text.items l.text.items l.state
