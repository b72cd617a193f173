use Rattle.std.proofs.Common.{◌≡◌, vec_len}
use Rattle.lx_library_tests.proofs.thread_pieces.many_files.Given as goal

abbrev pub invariant-loop-file : goal.invariant-loop-file
invariant-loop-file g l = vec_len l.files ≡ l.file
