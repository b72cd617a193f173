use Rattle.std.proofs.Common.{◌≡◌, ◌++◌, take}
use Rattle.std.specs.List.{flat_map}
use Rattle.std.specs.Prelude.{[], ◌∷◌}
use Rattle.std.specs.Char.{to_ascii_uppercase}
use Rattle.lx_c.proofs.declarations.push_capitals.Given as goal

abbrev pub invariant-loop-letter : goal.invariant-loop-letter
invariant-loop-letter l = l.text.items ≡ l.fn.text.items ++ flat_map (λ letter. to_ascii_uppercase letter ∷ []) (take l.letter-index l.word)
