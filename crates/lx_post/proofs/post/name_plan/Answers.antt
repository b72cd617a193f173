use Rattle.crossbeam_queue.specs.Passes.{view}
use Rattle.lx_post.proofs.PostSteps.{opens}
use Rattle.lx_post.proofs.post.name_plan.Goals as goal

pub another-spent-requires-clause-rule : goal.another-spent-requires-clause-rule
another-spent-requires-clause-rule g c = opens g.M.Maker.made c.args.pass.now.id (view c.args.pass.now) g.J.Naming.plan c.requires.blank.1
