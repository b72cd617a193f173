use Rattle.std.proofs.Common.{◌∙◌, sym, ap, set, true, arith}
use Rattle.lx_post.specs.declared.post_rule.PassView.{PassView}
use Rattle.lx_post.specs.Notes.{worker_of, is_end}
use Rattle.crossbeam_queue.specs.Passes.{view}
use Rattle.lx_post.proofs.PostSteps.{takes_one}
use Rattle.lx_post.proofs.NoteLists.{flags_kept, flags_set, not_end, took}
use Rattle.lx_post.proofs.post.Post.try_receive.Goals as goal

pub pop_as-requires-clause-rule : goal.pop_as-requires-clause-rule
pop_as-requires-clause-rule g c = (takes_one g.M.Maker.made c.pass.inside.pass.id (view c.pass.inside.pass) (ap (λ (u : PassView _). u.role) c.pass.invariant.1), λ items views _ _. tt)

pub invariant_of-pass-in-End : goal.invariant_of-pass-in-End
invariant_of-pass-in-End g c =
    let v = view c.pass.inside.pass in
    let note = c.in_ok-note.note in
    let told = c.in_ok-note.ensures in
    let set_flags = flags_set c.pass.inside.ended v.received note c.from.result (grind arith) c.pass.invariant.3 (ap is_end c.in-End.is) (c.from.ensures ∙ sym (ap worker_of c.in-End.is)) in
    let after = took v (view c.pop_as.new.pass) c.pass.inside.workers (set c.pass.inside.ended c.from.result true) note c.pass.invariant.1 told.rule.view set_flags in
    (told.queue.2 ∙ c.pass.invariant.0, after.0, c.pass.invariant.2, after.1)

pub invariant_of-pass-in_default : goal.invariant_of-pass-in_default
invariant_of-pass-in_default g c =
    let v = view c.pass.inside.pass in
    let note = c.in_ok-note.note in
    let told = c.in_ok-note.ensures in
    let flags = flags_kept c.pass.inside.ended v.received note c.pass.invariant.3 (not_end note c.in_default.not-End) in
    let after = took v (view c.pop_as.new.pass) c.pass.inside.workers c.pass.inside.ended note c.pass.invariant.1 told.rule.view flags in
    (told.queue.2 ∙ c.pass.invariant.0, after.0, c.pass.invariant.2, after.1)
