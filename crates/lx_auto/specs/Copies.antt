-- Copies of nodes.
use Rattle.std.specs.Prelude.{ℕ, zero, suc, Bool, true, false, nat_eq, List, [], ◌++◌, Option, Some, None}
use Rattle.lx_auto.specs.Unfolded.{Unfolded}
use Rattle.lx_auto.specs.Simplified.{cat_of, opt_of}

abbrev pub copies : {X : Type 0} → ℕ → List X → List X
copies zero xs = []
copies (suc n) xs = xs ++ copies n xs

-- no copy of the body is made
abbrev pub is_no_copy : Option ℕ → Bool
is_no_copy None = false
is_no_copy (Some high) = nat_eq high 0

-- one expression and then the other, which may be left out together if they aren't required
abbrev pub joined_as : Bool → Unfolded → Unfolded → Unfolded
joined_as true a b = cat_of a b
joined_as false a b = opt_of (cat_of a b)
