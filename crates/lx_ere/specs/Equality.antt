-- The equality of two sets of bytes, two trees and two readings, as tests; `EqualityLaws` shows that they are true if and only if the values are
-- equal.
use Rattle.std.specs.Prelude.{ℕ, Bool, true, false, nat_eq, ◌&&◌, List, Option}
use Rattle.std.specs.Bool.{beq}
use Rattle.std.specs.Option.{option_eq}
use Rattle.std.specs.Cmp.Lexicographic.{pointwise}
use Rattle.std.specs.Ordering.{nat_cmp}
use Rattle.std.specs.FinSet as set
use Rattle.lx_ere.specs.Regex.{Regex, nil, one_of, then, or, times, named, Reading}

-- each has the bytes of the other
abbrev pub same_sets : set.FinSet nat_cmp → set.FinSet nat_cmp → Bool
same_sets s t = set.is_subset s t && set.is_subset t s

abbrev is_nil : Regex → Bool
is_nil nil = true
is_nil _ = false

abbrev is_one_of : (set.FinSet nat_cmp → Bool) → Regex → Bool
is_one_of test (one_of s) = test s
is_one_of test _ = false

abbrev is_then : (Regex → Bool) → (Regex → Bool) → Regex → Bool
is_then first second (then a b) = first a && second b
is_then first second _ = false

abbrev is_or : (Regex → Bool) → (Regex → Bool) → Regex → Bool
is_or left right (or a b) = left a && right b
is_or left right _ = false

abbrev is_times : (Regex → Bool) → ℕ → Option ℕ → Regex → Bool
is_times test low high (times body l h) = test body && (nat_eq low l && option_eq nat_eq high h)
is_times test low high _ = false

abbrev is_named : List ℕ → Regex → Bool
is_named name (named n) = pointwise nat_eq name n
is_named name _ = false

-- the same form, and equal parts
abbrev pub same_trees : Regex → Regex → Bool
same_trees nil = is_nil
same_trees (one_of s) = is_one_of (same_sets s)
same_trees (then a b) = is_then (same_trees a) (same_trees b)
same_trees (or a b) = is_or (same_trees a) (same_trees b)
same_trees (times body low high) = is_times (same_trees body) low high
same_trees (named name) = is_named name

-- the same anchors, and equal trees
abbrev pub same_readings : Reading → Reading → Bool
same_readings r s = beq r.line_begin s.line_begin && (beq r.line_end s.line_end && same_trees r.tree s.tree)
