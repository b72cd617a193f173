use Rattle.std.proofs.Common.{◌≡◌, All}
use Rattle.lx_post.specs.declared.job.Job.{Job}
use Rattle.lx_post.specs.Claimed.{Drawn, fresh_seat}
use Rattle.lx_post.specs.Working.{IsReady}
use Rattle.lx_post.proofs.threads.jobs_of.Given as goal

abbrev pub invariant-loop-pass : goal.invariant-loop-pass
invariant-loop-pass g l = record {
  seats : All (λ (seat : Drawn). seat ≡ fresh_seat l.claims) l.seats.items;
  ready : All (λ (job : Job _). IsReady l.claims l.post l.plan job) l.jobs.items;
}
