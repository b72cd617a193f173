use Rattle.std.proofs.Common.{◌≡◌, length}
use Rattle.lx_calls.proofs.collecting.offer_turns.Given as goal

abbrev pub invariant-loop-number : goal.invariant-loop-number
invariant-loop-number g l = length l.collector.buffers ≡ length l.fn.collector.buffers
