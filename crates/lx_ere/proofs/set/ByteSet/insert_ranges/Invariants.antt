use Rattle.std.proofs.Common.{◌≡◌, ℕ, Bool, ◌||◌, take}
use Rattle.lx_ere.specs.Bytes.{bytes_where, in_ranges}
use Rattle.lx_ere.proofs.set.ByteSet.insert_ranges.Given as goal

abbrev pub invariant-loop-range : goal.invariant-loop-range
invariant-loop-range l = (test : ℕ → Bool) → l.initial.self ≡ bytes_where test → l.self ≡ bytes_where (λ b. in_ranges (take l.range-index l.ranges) b || test b)
