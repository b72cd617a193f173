use Rattle.std.proofs.Common.{◌∙◌, sym, ap}
use Rattle.lx_post.specs.declared.post_rule.PassView.{PassView}
use Rattle.lx_post.specs.Notes.{has_end}
use Rattle.lx_post.specs.Posted.{Sent}
use Rattle.crossbeam_queue.specs.Passes.{view, ruled_capacity}
use Rattle.lx_post.proofs.PostSteps.{sends_one}
use Rattle.lx_post.proofs.post.Post.try_send.Goals as goal

pub push_as-requires-clause-rule : goal.push_as-requires-clause-rule
push_as-requires-clause-rule g c =
    let v = view c.pass.inside.pass in
    let is = c.pass.invariant.1 in
    let seen = c.pass.view_is in
    let may = c.requires.note in (
      sends_one g.M.Maker.made (ruled_capacity c.self.inside.queue) c.pass.inside.pass.id v c.args.note
          (ap (λ (u : PassView _). u.role) is)
          (may.worker ∙ sym (ap (λ (s : Sent _). s.worker) seen) ∙ sym (ap (λ (u : PassView _). u.worker) is))
          (rw (ap (λ (s : Sent _). s.plan) seen) may.honest)
          (ap (λ (s : Sent _). has_end s.sent) seen ∙ may.going),
      λ items views _ _. tt,
    )
