use Rattle.std.proofs.Common.{◌≡◌, length}
use Rattle.lx_library_tests.proofs.collector.expect_deliveries.Given as goal

abbrev pub invariant-loop-next : goal.invariant-loop-next
invariant-loop-next g l = length l.collector.buffers ≡ length l.fn.collector.buffers
