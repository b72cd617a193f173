use Rattle.std.proofs.Common.{◌≡◌, map}
use Rattle.lx_post.specs.declared.job.Job.{Job}
use Rattle.lx_post.proofs.joining.take_apart.Given as goal

abbrev pub invariant-loop-job : goal.invariant-loop-job
invariant-loop-job g l = record {
  seats : l.parts.seats.items ≡ map (λ (job : Job _). job.seat) l.yielded;
  passes : l.parts.passes.items ≡ map (λ (job : Job _). job.pass) l.yielded;
}
