use Rattle.std.proofs.Common.{◌≡◌, length}
use Rattle.lx_spec.specs.Bytes as bytes
use Rattle.lx_spec.proofs.bytes.trim.Given as goal

abbrev pub invariant-loop-last : goal.invariant-loop-last
invariant-loop-last l = bytes.trimmed l.front ≡ bytes.trimmed l.text

abbrev pub decreases-loop-last : goal.decreases-loop-last
decreases-loop-last l = length l.front
