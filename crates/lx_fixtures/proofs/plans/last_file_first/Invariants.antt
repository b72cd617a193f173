use Rattle.std.proofs.Common.{◌-◌}
use Rattle.lx_piece.specs.Arrivals.{AreHonest}
use Rattle.lx_piece.specs.Cutting.{IsCutterOf}
use Rattle.lx_piece.specs.Pieces.{pieces_of}
use Rattle.lx_fixtures.proofs.plans.last_file_first.Given as goal

abbrev pub invariant-loop-index : goal.invariant-loop-index
invariant-loop-index l = AreHonest l.plan l.pieces.items

abbrev pub invariant-loop-cutter : goal.invariant-loop-cutter
invariant-loop-cutter l = record { honest : AreHonest l.plan l.pieces.items; cutter : IsCutterOf l.plan l.cutter }

abbrev pub decreases-loop-cutter : goal.decreases-loop-cutter
decreases-loop-cutter l = pieces_of l.plan l.cutter.file - l.cutter.next
