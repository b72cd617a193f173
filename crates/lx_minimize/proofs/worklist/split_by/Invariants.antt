use Rattle.std.proofs.Common.{◌≤◌, vec_len}
use Rattle.lx_minimize.specs.BlockBounds.{AreBounds}
use Rattle.lx_minimize.specs.SplitMeasure.{splits_left}
use Rattle.lx_minimize.specs.Partitions.{IsSound}
use Rattle.lx_minimize.proofs.worklist.split_by.Given as goal

abbrev pub invariant-loop-from : goal.invariant-loop-from
invariant-loop-from l = record { sound : IsSound l.m l.p; splits_left : splits_left l.m l.p l.worklist ≤ splits_left l.m l.fn.p l.fn.worklist; bounds : AreBounds l.p l.worklist.bounds }

abbrev pub decreases-loop-from : goal.decreases-loop-from
decreases-loop-from l = vec_len l.worklist.touched
