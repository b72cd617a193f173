use Rattle.lx_minimize.specs.BlockBounds.{AreBounds}
use Rattle.lx_minimize.specs.SplitMeasure.{splits_left}
use Rattle.lx_minimize.specs.Partitions.{IsSound}
use Rattle.lx_minimize.proofs.worklist.refine_by_worklist.Given as goal

abbrev pub invariant-loop-block : goal.invariant-loop-block
invariant-loop-block l = record { sound : IsSound l.m l.p; bounds : AreBounds l.p l.worklist.bounds }

abbrev pub decreases-loop-block : goal.decreases-loop-block
decreases-loop-block l = splits_left l.m l.p l.worklist
