use Rattle.lx_minimize.proofs.QuotientSteps.{start_push}
use Rattle.lx_minimize.proofs.quotient.starts_of.Goals as goal

pub loop-condition-preserved : goal.loop-condition-preserved
loop-condition-preserved c =
    rw c.in_ok-push.ensures.items (start_push c.args.p.now _ _ c.loop-condition.condition _ c.loop-condition.invariant
    c.state_of.ensures c.state_of-in-loop-condition.ensures)
