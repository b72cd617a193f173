use Rattle.std.proofs.Common.{below_more}
use Rattle.lx_minimize.proofs.moving.first_unstable.Goals as goal

pub loop-s-preserved : goal.loop-s-preserved
loop-s-preserved c = below_more _ _ c.loop-s.invariant c.in_default.ensures.none
