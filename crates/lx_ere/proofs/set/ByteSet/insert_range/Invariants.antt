use Rattle.std.proofs.Common.{◌≡◌, ℕ, ◌+◌, ◌≤◌, max, Bool, ◌&&◌, ◌||◌, nat_le, nat_lt}
use Rattle.lx_ere.specs.Bytes.{bytes_where}
use Rattle.lx_ere.proofs.set.ByteSet.insert_range.Given as goal

abbrev pub invariant-loop-byte : goal.invariant-loop-byte
invariant-loop-byte l = record {
  within : l.byte ≤ max l.first (l.last + 1);
  added : (test : ℕ → Bool) → l.initial.self ≡ bytes_where test → l.self ≡ bytes_where (λ b. (nat_le l.first b && nat_lt b l.byte) || test b);
}
