use Rattle.lx_c.proofs.Texts.{HasTexts}
use Rattle.lx_lex.specs.Arrays.{entry_text}
use Rattle.lx_lex.proofs.arrays.push_zero_entries.Given as goal

abbrev pub invariant-loop-class : goal.invariant-loop-class
invariant-loop-class l = HasTexts (λ c. entry_text 0) l.fn.text.items l.text.items l.class
