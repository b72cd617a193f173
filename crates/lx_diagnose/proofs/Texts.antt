-- The texts of all elements, where those of the first ones are those of all.
use Rattle.std.proofs.Common.{ℕ, ◌≡◌, ◌≤◌, List, ◌++◌, length, take, ap, ◌∙◌}
use Rattle.std.proofs.lemmas.List.{take_all}
use Rattle.std.specs.List.{flat_map}

pub elements_end : {X : Type 0} (text : X → List ℕ) (old mid : List ℕ) (xs : List X) (i : ℕ) → length xs ≤ i → mid ≡ old ++ flat_map text (take i xs) → mid ≡ old ++ flat_map text xs
elements_end text old mid xs i l h = h ∙ ap (λ ys. old ++ flat_map text ys) (take_all i xs l)
