use Rattle.lx_post.proofs.Sendings.{worked}
use Rattle.lx_post.proofs.run_context.RunContext.work.Goals as goal

pub returns : goal.returns
returns g c =
    let drawn = c.send_drawn-files in
    worked g.M.Maker.made c.args.self.now.claims c.args.self.now.post c.args.self.now.plan.now c.args.job drawn.new.seat drawn.new.pass c.send.new.pass c.worker-worker.result drawn.result.0 drawn.result.1 c.requires.ready
    drawn.ensures.seat drawn.ensures.pass drawn.ensures.done c.worker-worker.ensures c.send.ensures
