-- Limits of reports.
use Rattle.std.specs.Prelude.{ℕ}

-- the greatest number of `--most`
abbrev pub most_told : ℕ
most_told = 100
