use Rattle.std.proofs.Common.{ap, arith, ◌<◌}
use Rattle.crossbeam_queue.specs.Passes.{view}
use Rattle.lx_post.specs.declared.post_rule.PassView.{PassView}
use Rattle.lx_post.specs.Posting.{no_worker}
use Rattle.lx_post.proofs.PostSteps.{adds_worker}
use Rattle.lx_post.proofs.post.Post.add_worker.Goals as goal

pub another-pass-requires-clause-rule : goal.another-pass-requires-clause-rule
another-pass-requires-clause-rule g c =
    let v = view c.args.pass.now in
    let is = c.requires.next.0 in
    let given = ap (λ (u : PassView _). u.given) is in
    let few = c.requires.next.1 in
    let room : v.given < no_worker = omega arith in
    adds_worker g.M.Maker.made c.args.pass.now.id v (ap (λ (u : PassView _). u.role) is) (ap (λ (u : PassView _). u.worker) is) room
