use Rattle.std.proofs.Common.{◌≡◌, length}
use Rattle.lx_spec.specs.Bytes as bytes
use Rattle.lx_spec.proofs.bytes.has_pair.Given as goal

abbrev pub invariant-loop-behind : goal.invariant-loop-behind
invariant-loop-behind l = bytes.has_pair l.a l.b l.rest ≡ bytes.has_pair l.a l.b l.text

abbrev pub decreases-loop-behind : goal.decreases-loop-behind
decreases-loop-behind l = length l.rest
