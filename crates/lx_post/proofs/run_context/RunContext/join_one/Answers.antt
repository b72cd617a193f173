use Rattle.lx_post.specs.Working.{IsDone}
use Rattle.lx_post.proofs.NothingLost.{done_of, all_pushed}
use Rattle.lx_post.proofs.run_context.RunContext.join_one.Goals as goal

pub returns-in-Done : goal.returns-in-Done
returns-in-Done g c =
    let made = g.M.Maker.made in
    let self = c.args.self.now in
    let done = done_of made self.claims self.post self.plan.now c.args.handle.promise.job.value c.in-Done.job c.requires.handle c.in-Done.ensures in
    record { ended = λ all. all_pushed (IsDone made self.claims self.post self.plan.now) _ c.args.ended.now.items _ c.in-Done.job all done c.push.ensures.items }
