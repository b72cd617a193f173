use Rattle.std.proofs.Common.{◌≡◌, length}
use Rattle.lx_calls.proofs.collecting.print_delivered.Given as goal

abbrev pub invariant-loop-piece : goal.invariant-loop-piece
invariant-loop-piece g l = length l.collector.buffers ≡ length l.fn.collector.buffers
