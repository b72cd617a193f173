use Rattle.std.proofs.Common.{arith}
use Rattle.lx_spec.proofs.graph.depths_of.Goals as goal

pub loop-preserved : goal.loop-preserved
loop-preserved c = record {
  len = omega (arith, c.deepen.ensures.len, c.loop.invariant.len);
  sound = c.deepen.ensures.sound c.loop.invariant.sound;
  reach = c.deepen.ensures.reach c.loop.counter (omega arith) c.loop.invariant.reach;
}
