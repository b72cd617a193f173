use Rattle.lx_minimize.specs.Partitions.{StepsLikeRepresentative}
use Rattle.std.proofs.Common.{ℕ, ◌<◌}
use Rattle.lx_minimize.proofs.moving.first_unstable.Given as goal

abbrev pub invariant-loop-s : goal.invariant-loop-s
invariant-loop-s l = (t : ℕ) → t < l.s → StepsLikeRepresentative l.m l.p t l.m.width
