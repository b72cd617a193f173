use Rattle.std.proofs.Common.{◌-◌}
use Rattle.lx_minimize.specs.Completion.{total}
use Rattle.lx_minimize.specs.Partitions.{IsSound, block_count}
use Rattle.lx_minimize.proofs.split.refine.Given as goal

abbrev pub invariant-loop-s : goal.invariant-loop-s
invariant-loop-s l = IsSound l.m l.p

abbrev pub decreases-loop-s : goal.decreases-loop-s
decreases-loop-s l = total l.m - block_count l.p
