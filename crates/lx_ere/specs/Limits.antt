-- The limits of expressions.
use Rattle.std.specs.Prelude.{ℕ}

-- the most bytes of a pattern, and of a substitute
abbrev pub max_pattern_bytes : ℕ
max_pattern_bytes = 1024

-- the greatest bound of an interval, `RE_DUP_MAX` (XBD 9.4.6)
abbrev pub max_interval_bound : ℕ
max_interval_bound = 255
