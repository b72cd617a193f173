use Rattle.std.proofs.Common.{arith}
use Rattle.lx_minimize.proofs.Splits.{blocks_at_most}
use Rattle.lx_minimize.proofs.split.refine.Goals as goal

pub loop-s-smaller : goal.loop-s-smaller
loop-s-smaller c = omega (arith, blocks_at_most c.args.m.now c.split_at.new.p c.in_ok-split_at.ensures.sound, c.in_ok-split_at.ensures.more)
