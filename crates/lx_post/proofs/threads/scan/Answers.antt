use Rattle.std.proofs.Common.{subst}
use Rattle.std.proofs.lemmas.Result.{on_ok_weaker}
use Rattle.lx_post.specs.Collected.{AreAllReceived, HasRun, IsCollected}
use Rattle.lx_post.proofs.Received.{none_taken, all_whole}
use Rattle.lx_post.proofs.threads.scan.Goals as goal

pub returns-in_default-clause-taken : goal.returns-in_default-clause-taken
returns-in_default-clause-taken g c = none_taken c.args.plan.now _ c.requires.reader.nothing

pub returns-in-Received-clause-ok : goal.returns-in-Received-clause-ok
returns-in-Received-clause-ok g c =
    let made = g.M.Maker.made in
    let context = c.in-Ok.context in
    let counts = g.R.ReaderOf.counts c.run_scoped-reader.result.0 in
    let plan = c.in-Ok.ensures.plan in
    let ran = subst (HasRun made context.plan.now context.claims context.post counts) c.in-Received.is c.run_scoped-reader.ensures.ran in
    let collected = subst (λ plan. IsCollected made plan c.in-Received.take counts) plan ran.collected in
    on_ok_weaker c.settle_all-settled.result (λ all. all_whole made c.args.plan.now c.in-Received.take counts collected (subst (λ plan. AreAllReceived made plan c.in-Received.take) plan all)) c.settle_all-settled.ensures.ok
