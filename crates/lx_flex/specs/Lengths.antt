-- The lengths and bytes of the texts of an expression.
use Rattle.std.specs.Prelude.{◌≡◌, ◌↔◌, ◌+◌, ◌*◌, ◌==◌, ◌&&◌, ◌||◌, nat_lt, IsTrue, ℕ, zero, suc, Bool, true, false, All, List, [], Option, Some, None, length}
use Rattle.std.specs.FinSet as set
use Rattle.lx_ere.specs.Bounds.{has_ordered_bounds}
use Rattle.lx_ere.specs.Matching.{Matches, no_names}
use Rattle.lx_ere.specs.Regex.{Regex, nil, one_of, then, or, times, named}

-- all texts of the expression have this length, if no name has a text
abbrev pub HasLength : Regex → ℕ → Type 0
HasLength tree n = (w : List ℕ) → Matches no_names tree w → length w ≡ n

-- the flag says whether the expression matches the empty text
abbrev pub SaysEmpty : Regex → Bool → Type 0
SaysEmpty tree flag = IsTrue (has_ordered_bounds tree) → IsTrue flag ↔ Matches no_names tree []

-- no text of the expression has a newline
abbrev pub HasNoNewline : Regex → Type 0
HasNoNewline tree = (w : List ℕ) → Matches no_names tree w → All (λ b. b ≡ 10 → ⊥) w

-- ---- lengths by the form of an expression

abbrev pub some_if : Bool → ℕ → Option ℕ
some_if true n = Some n
some_if false n = None

-- a length, if 32 bits hold it
abbrev pub held : ℕ → Option ℕ
held n = some_if (nat_lt n 4294967296) n

abbrev pub sum_of : Option ℕ → Option ℕ → Option ℕ
sum_of None other = None
sum_of (Some n) None = None
sum_of (Some n) (Some m) = held (n + m)

abbrev pub same_of : Option ℕ → Option ℕ → Option ℕ
same_of None other = None
same_of (Some n) None = None
same_of (Some n) (Some m) = some_if (n == m) n

-- the length of low texts of the length n, if there are never more
abbrev pub held_if : Bool → ℕ → Option ℕ
held_if true n = held n
held_if false n = None

abbrev pub repeated : ℕ → ℕ → Option ℕ → Option ℕ
repeated n low None = None
repeated n low (Some high) = held_if (high == low) (n * low)

abbrev pub repeated_of : Option ℕ → ℕ → Option ℕ → Option ℕ
repeated_of None low high = None
repeated_of (Some zero) low high = Some 0
repeated_of (Some (suc n)) low high = repeated (suc n) low high

-- the length of all texts, where it is seen
abbrev pub length_of : Regex → Option ℕ
length_of nil = Some 0
length_of (one_of s) = Some 1
length_of (then a b) = sum_of (length_of a) (length_of b)
length_of (or a b) = same_of (length_of a) (length_of b)
length_of (times body low high) = repeated_of (length_of body) low high
length_of (named name) = None

-- true if the expression matches the empty text
abbrev pub matches_empty : Regex → Bool
matches_empty nil = true
matches_empty (one_of s) = false
matches_empty (then a b) = matches_empty a && matches_empty b
matches_empty (or a b) = matches_empty a || matches_empty b
matches_empty (times body low high) = low == 0 || matches_empty body
matches_empty (named name) = false
