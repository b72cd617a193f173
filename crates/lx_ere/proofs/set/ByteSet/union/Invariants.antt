use Rattle.std.proofs.Common.{◌≡◌, ◌≤◌}
use Rattle.std.specs.FinSet as byte_sets
use Rattle.lx_ere.specs.ByteLaws.{filled}
use Rattle.lx_ere.proofs.set.ByteSet.union.Given as goal

abbrev pub invariant-loop-byte : goal.invariant-loop-byte
invariant-loop-byte l = record {
  within : l.byte ≤ 256;
  added : l.union ≡ filled (λ b. byte_sets.contains l.other b) (λ b. byte_sets.contains l.self b) l.byte;
}
