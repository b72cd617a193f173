use Rattle.lx_c.proofs.Texts.{HasTexts}
use Rattle.lx_lex.specs.Arrays.{entry_text, target_word}
use Rattle.lx_automaton.specs.Automata.{class_target}
use Rattle.lx_lex.proofs.arrays.push_row.Given as goal

abbrev pub invariant-loop-class : goal.invariant-loop-class
invariant-loop-class l = HasTexts (λ c. entry_text (target_word l.automaton (class_target l.automaton l.state c))) l.fn.text.items l.text.items l.class
