use Rattle.std.proofs.Common.{arith}
use Rattle.lx_minimize.proofs.Splits.{blocks_at_most}
use Rattle.lx_minimize.proofs.quotient.state_of.Goals as goal

pub overflow_cast-result : goal.overflow_cast-result
overflow_cast-result c =
    let s = c.requires.complete.small in
    let long = c.args.p.now.representatives.ok.0 in
    omega (arith, blocks_at_most c.args.m.now c.args.p.now c.requires.sound)
