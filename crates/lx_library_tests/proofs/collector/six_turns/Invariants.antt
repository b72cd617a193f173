use Rattle.std.proofs.Common.{◌≡◌, length}
use Rattle.lx_library_tests.proofs.collector.six_turns.Given as goal

abbrev pub invariant-loop-turn : goal.invariant-loop-turn
invariant-loop-turn g l = length l.collector.buffers ≡ 2
