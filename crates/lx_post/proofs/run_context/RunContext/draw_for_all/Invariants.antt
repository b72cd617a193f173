use Rattle.std.proofs.Common.{All}
use Rattle.lx_post.specs.declared.job.Job.{Job}
use Rattle.lx_post.specs.Working.{IsDone}
use Rattle.lx_post.proofs.run_context.RunContext.draw_for_all.Given as goal

abbrev pub invariant-loop-job : goal.invariant-loop-job
invariant-loop-job g l = All (λ (job : Job _). IsDone g.M.Maker.made l.self.claims l.self.post l.self.plan.now job) l.ended.items
