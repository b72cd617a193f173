use Rattle.std.proofs.Common.{◌++◌, ◌<◌, ◌≡◌}
use Rattle.std.specs.Prelude.{codes}
use Rattle.lx_c.proofs.Texts.{HasTexts}
use Rattle.lx_lex.specs.Arrays.{entry_text}
use Rattle.lx_lex.specs.Lists.{place_of}
use Rattle.lx_lex.proofs.list_arrays.push_places.Given as goal

abbrev pub invariant-loop-number : goal.invariant-loop-number
invariant-loop-number l = HasTexts (λ k. entry_text (place_of l.all k)) (l.fn.text.items ++ codes "0,") l.text.items l.number × (l.place ≡ place_of l.all l.number) × (l.place < 4294967296)
