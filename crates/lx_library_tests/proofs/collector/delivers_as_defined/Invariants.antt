use Rattle.std.proofs.Common.{◌≡◌, length}
use Rattle.lx_library_tests.proofs.collector.delivers_as_defined.Given as goal

abbrev pub invariant-loop-delivery : goal.invariant-loop-delivery
invariant-loop-delivery g l = length l.collector.buffers ≡ length l.fn.collector.buffers
