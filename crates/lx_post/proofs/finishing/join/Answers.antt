use Rattle.std.proofs.Common.{ap}
use Rattle.crossbeam_queue.specs.Passes.{view}
use Rattle.lx_post.specs.declared.post_rule.PassView.{PassView}
use Rattle.lx_post.proofs.PostSteps.{joins, whole}
use Rattle.lx_post.proofs.finishing.join.Goals as goal

pub absorb-requires-clause-rule : goal.absorb-requires-clause-rule
absorb-requires-clause-rule g c =
    let pass = c.pass.inside.pass in
    let other = c.other.inside.pass in
    joins g.M.Maker.made pass.id (view pass) other.id (view other) (ap (λ (u : PassView _). u.role) c.pass.invariant.1) (ap (λ (u : PassView _). u.role) c.other.invariant.1)

pub learn_as-requires-clause-rule : goal.learn_as-requires-clause-rule
learn_as-requires-clause-rule g c = whole g.M.Maker.made c.absorb.new.pass.id (view c.absorb.new.pass) (ap (λ (u : PassView _). u.role) c.absorb.ensures.rule)
