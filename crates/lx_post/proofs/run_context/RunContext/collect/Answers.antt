use Rattle.std.proofs.Common.{sym, ◌∙◌}
use Rattle.lx_post.proofs.Received.{collected}
use Rattle.lx_post.proofs.run_context.RunContext.collect.Goals as goal

pub returns-in-Ok-clause-ok : goal.returns-in-Ok-clause-ok
returns-in-Ok-clause-ok g c =
    collected g.M.Maker.made c.args.self.now.post c.args.self.now.plan.now c.new-arrivals.result c.relay_of-relayed.new.arrivals c.into_pass-take.result.0 c.into_pass-take.result.1 c.in-Ok._replies.items (g.R.ReaderOf.counts c.relay_of-relayed.new.reader)
    (c.new-arrivals.ensures.pass ∙ c.requires.take) c.new-arrivals.ensures.none c.into_pass-take.ensures.pass c.into_pass-take.ensures.fault (sym c.if-is_some.ensures) c.in-Ok.ensures.ok
