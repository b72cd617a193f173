use Rattle.std.proofs.Common.{All}
use Rattle.lx_post.specs.declared.job.Job.{Job}
use Rattle.lx_post.specs.Working.{IsDone, IsIdle, IsReady}
use Rattle.lx_post.proofs.starting.start_all.Given as goal

abbrev pub invariant-loop-job : goal.invariant-loop-job
invariant-loop-job g l = record {
  handles : All (λ handle. IsReady l.context.claims l.context.post l.context.plan.now handle.promise.job.value) l.workers.handles.items;
  ended : All (λ (job : Job _). IsDone g.M.Maker.made l.context.claims l.context.post l.context.plan.now job) l.workers.ended.items;
  idle : All (λ (job : Job _). IsIdle l.context.claims l.context.post l.context.plan.now job) l.workers.idle.items;
}
