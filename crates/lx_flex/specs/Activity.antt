-- The conditions in which a rule is active (flex's manual, "Start Conditions").
use Rattle.std.specs.Prelude.{◌+◌, ◌||◌, if◌then◌else◌, nat_eq, ℕ, List, [], ◌∷◌, Option, Some, None, codes, filter}
use Rattle.std.specs.Cmp.Lexicographic.{pointwise}
use Rattle.std.specs.List.{list_any, range_with_len}

-- the number of the first condition with this name, counted from n
abbrev pub number_from : ℕ → List (List ℕ) → List ℕ → Option ℕ
number_from n [] name = None
number_from n (own ∷ names) name = if pointwise nat_eq own name then Some n else number_from (n + 1) names name

-- The number of the condition with this name, of conditions with these names. `0` is a name of the first.
abbrev pub condition_number : List (List ℕ) → List ℕ → Option ℕ
condition_number names name = if pointwise nat_eq name (codes "0") then Some 0 else number_from 0 names name

-- the conditions below this number that are in either list, in ascending order
abbrev pub joined : ℕ → List ℕ → List ℕ → List ℕ
joined count one other = filter (λ n. list_any (λ m. nat_eq m n) one || list_any (λ m. nat_eq m n) other) (range_with_len 0 count)
