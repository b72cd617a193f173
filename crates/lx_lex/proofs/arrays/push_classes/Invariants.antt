use Rattle.lx_c.proofs.Texts.{HasTexts}
use Rattle.lx_lex.specs.Arrays.{class_word, entry_text}
use Rattle.lx_lex.proofs.arrays.push_classes.Given as goal

abbrev pub invariant-loop-byte : goal.invariant-loop-byte
invariant-loop-byte l = HasTexts (λ b. entry_text (class_word l.automaton b)) l.fn.text.items l.text.items l.byte
