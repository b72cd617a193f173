-- In each interval the low bound is at most the high one (XBD 9.4.6: intervals).
use Rattle.std.specs.Prelude.{ℕ, Bool, true, ◌&&◌, nat_le, Option, Some, None}
use Rattle.lx_ere.specs.Regex.{Regex, nil, one_of, then, or, times, named}

abbrev pub is_ordered : ℕ → Option ℕ → Bool
is_ordered low None = true
is_ordered low (Some high) = nat_le low high

abbrev pub has_ordered_bounds : Regex → Bool
has_ordered_bounds nil = true
has_ordered_bounds (one_of s) = true
has_ordered_bounds (then a b) = has_ordered_bounds a && has_ordered_bounds b
has_ordered_bounds (or a b) = has_ordered_bounds a && has_ordered_bounds b
has_ordered_bounds (times body low high) = is_ordered low high && has_ordered_bounds body
has_ordered_bounds (named name) = true
