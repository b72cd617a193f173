use Rattle.std.proofs.Common.{subst}
use Rattle.lx_post.specs.Working.{IsDone, IsOutcome}
use Rattle.lx_post.proofs.NothingLost.{all_pushed, done_of}
use Rattle.lx_post.proofs.starting.start_or_idle.Goals as goal

pub returns-in-Err-Done-clause-ended : goal.returns-in-Err-Done-clause-ended
returns-in-Err-Done-clause-ended g c = λ all.
    let made = g.M.Maker.made in
    let context = c.args.context.now in
    all_pushed (IsDone made context.claims context.post context.plan.now) _ c.args.workers.now.ended.items _ c.in-Err-Done.job all
    (done_of made context.claims context.post context.plan.now c.args.job c.in-Err-Done.job c.requires.ready (subst (IsOutcome made c.args.job) c.in-Err-Done.field-0-is c.in-Err-Done.ensures.err)) c.push-in-Err-Done.ensures.items
