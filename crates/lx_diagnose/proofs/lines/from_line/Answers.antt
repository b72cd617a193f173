use Rattle.std.proofs.Common.{arith, ◌-◌, ◌+◌}
use Rattle.lx_diagnose.proofs.LineSteps.{step_on, none_left}
use Rattle.lx_diagnose.proofs.lines.from_line.Goals as goal

pub loop-preserved : goal.loop-preserved
loop-preserved c = step_on (c.args.line - (c.loop.counter + 1)) (c.args.line - c.loop.counter) _ _ _ (omega arith) c.skip_line-rest.ensures c.loop.invariant

pub returns : goal.returns
returns c = none_left (c.args.line - c.loop.counter) _ _ (omega arith) c.loop.invariant
