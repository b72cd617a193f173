use Rattle.lx_piece.specs.Cutting.{IsCutterOf}
use Rattle.lx_library_tests.proofs.pieces.ends_behind.Given as goal

abbrev pub invariant-loop-piece : goal.invariant-loop-piece
invariant-loop-piece g l = IsCutterOf l.plan l.cutter

abbrev pub invariant-loop-time : goal.invariant-loop-time
invariant-loop-time g l = IsCutterOf l.plan l.cutter
