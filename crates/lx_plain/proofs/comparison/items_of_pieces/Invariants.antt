use Rattle.std.proofs.Common.{◌-◌}
use Rattle.lx_piece.specs.Cutting.{IsCutterOf}
use Rattle.lx_piece.specs.Pieces.{pieces_of}
use Rattle.lx_plain.proofs.comparison.items_of_pieces.Given as goal

abbrev pub invariant-loop-cutter : goal.invariant-loop-cutter
invariant-loop-cutter l = IsCutterOf l.plan l.cutter

abbrev pub decreases-loop-cutter : goal.decreases-loop-cutter
decreases-loop-cutter l = pieces_of l.plan l.cutter.file - l.cutter.next
