use Rattle.lx_post.specs.Working.{IsDone}
use Rattle.lx_post.proofs.NothingLost.{all_pushed}
use Rattle.lx_post.proofs.run_context.RunContext.draw_for_all.Goals as goal

pub loop-job-preserved : goal.loop-job-preserved
loop-job-preserved g c =
    let self = c.args.self.now in
    all_pushed (IsDone g.M.Maker.made self.claims self.post self.plan.now) _ c.loop-job.ended.items _ c.in-Some-draw_for.job c.loop-job.invariant c.in-Some-draw_for.ensures c.push.ensures.items
