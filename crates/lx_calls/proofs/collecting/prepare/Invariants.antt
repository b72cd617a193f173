use Rattle.std.proofs.Common.{◌≡◌, length}
use Rattle.lx_calls.proofs.collecting.prepare.Given as goal

abbrev pub invariant-loop-number : goal.invariant-loop-number
invariant-loop-number l = length l.collector.buffers ≡ 1
