use Rattle.std.proofs.Common.{◌≤◌}
use Rattle.lx_minimize.specs.BlockBounds.{AreBounds}
use Rattle.lx_minimize.specs.SplitMeasure.{splits_left}
use Rattle.lx_minimize.specs.Partitions.{IsSound}
use Rattle.lx_minimize.proofs.worklist.split_all.Given as goal

abbrev pub invariant-loop-class : goal.invariant-loop-class
invariant-loop-class l = record { sound : IsSound l.m l.p; splits_left : splits_left l.m l.p l.worklist ≤ splits_left l.m l.fn.p l.fn.worklist; bounds : AreBounds l.p l.worklist.bounds }
