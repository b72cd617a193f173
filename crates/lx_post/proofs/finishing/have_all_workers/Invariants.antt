use Rattle.lx_post.specs.Posted.{HaveAllWorkers}
use Rattle.lx_post.proofs.finishing.have_all_workers.Given as goal

abbrev pub invariant-loop-worker : goal.invariant-loop-worker
invariant-loop-worker g l = HaveAllWorkers l.worker l.passes
