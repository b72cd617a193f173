-- The limits of flex patterns.
use Rattle.std.specs.Prelude.{ℕ, Bool, true, nat_le, Option, Some, None}

-- the greatest bound of an interval: 255 times 64, and 63 more. An automaton has at most 16,384 positions.
abbrev pub max_flex_bound : ℕ
max_flex_bound = 16383

-- the bound is at most that one, or there is none
abbrev pub is_flex_bound : Option ℕ → Bool
is_flex_bound None = true
is_flex_bound (Some m) = nat_le m max_flex_bound
