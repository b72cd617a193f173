-- Trees of the same form, but for the empty word.
use Rattle.std.specs.Prelude.{◌≡◌, ℕ, Bool, false, nat_eq, ◌&&◌, List, Option, Some}
use Rattle.std.specs.Option.{option_eq}
use Rattle.std.specs.Cmp.Lexicographic.{pointwise}
use Rattle.std.specs.Ordering.{nat_cmp}
use Rattle.std.specs.FinSet as set
use Rattle.lx_ere.specs.Equality.{same_sets}
use Rattle.lx_ere.specs.Regex.{Regex, nil, one_of, then, or, times, named, Reading}

pub data Mirrors : Regex → Regex → Type 0 where
  -- lx spells the empty word as a body repeated no times
  empties : (r : Regex) → Mirrors nil (times r 0 (Some 0))
  sets : (s : set.FinSet nat_cmp) → Mirrors (one_of s) (one_of s)
  thens : (a b r s : Regex) → Mirrors a r → Mirrors b s → Mirrors (then a b) (then r s)
  ors : (a b r s : Regex) → Mirrors a r → Mirrors b s → Mirrors (or a b) (or r s)
  repeats : (a r : Regex) (low : ℕ) (high : Option ℕ) → Mirrors a r → Mirrors (times a low high) (times r low high)
  names : (name : List ℕ) → Mirrors (named name) (named name)

-- the same anchors, and a tree of the same form
pub record IsMirrored (pattern reading : Reading) : Type 0 where
  pub begins : reading.line_begin ≡ pattern.line_begin
  pub ends : reading.line_end ≡ pattern.line_end
  pub form : Mirrors pattern.tree reading.tree

abbrev is_empty : Regex → Bool
is_empty (times body low high) = nat_eq low 0 && option_eq nat_eq high (Some 0)
is_empty _ = false

abbrev is_one_of : (set.FinSet nat_cmp → Bool) → Regex → Bool
is_one_of test (one_of s) = test s
is_one_of test _ = false

abbrev is_then : (Regex → Bool) → (Regex → Bool) → Regex → Bool
is_then first second (then a b) = first a && second b
is_then first second _ = false

abbrev is_or : (Regex → Bool) → (Regex → Bool) → Regex → Bool
is_or left right (or a b) = left a && right b
is_or left right _ = false

abbrev is_times : (Regex → Bool) → ℕ → Option ℕ → Regex → Bool
is_times test low high (times body l h) = test body && (nat_eq low l && option_eq nat_eq high h)
is_times test low high _ = false

abbrev is_named : List ℕ → Regex → Bool
is_named name (named n) = pointwise nat_eq name n
is_named name _ = false

-- a test that decides `Mirrors`, by the law `mirrors_decides`
abbrev pub does_mirror : Regex → Regex → Bool
does_mirror nil = is_empty
does_mirror (one_of s) = is_one_of (same_sets s)
does_mirror (then a b) = is_then (does_mirror a) (does_mirror b)
does_mirror (or a b) = is_or (does_mirror a) (does_mirror b)
does_mirror (times body low high) = is_times (does_mirror body) low high
does_mirror (named name) = is_named name
