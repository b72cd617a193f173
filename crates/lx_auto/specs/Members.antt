-- Lists of numbers as sets.
use Rattle.std.specs.Prelude.{ℕ, suc, Bool, true, false, nat_eq, List, [], ◌∷◌}
use Rattle.std.specs.List.{list_any}

abbrev pub has_member : List ℕ → ℕ → Bool
has_member set q = list_any (λ x. nat_eq x q) set

-- the places of the flags that are set, the first of them being i
abbrev pub places_from : ℕ → List Bool → List ℕ
places_from i [] = []
places_from i (true ∷ flags) = i ∷ places_from (suc i) flags
places_from i (false ∷ flags) = places_from (suc i) flags
