use Rattle.std.proofs.Common.{◌≡◌, length}
use Rattle.lx_library_tests.proofs.collector.a_file_is_cut_once_its_piece_that_says_so_was_delivered.Given as goal

abbrev pub invariant-loop-turn : goal.invariant-loop-turn
invariant-loop-turn g l = length l.collector.buffers ≡ 3
