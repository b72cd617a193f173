use Rattle.std.proofs.Common.{◌≡◌, All}
use Rattle.lx_post.specs.Posted.{Sent, IsAllReceived}
use Rattle.lx_post.proofs.finishing.finish.Given as goal

abbrev pub invariant-loop-other : goal.invariant-loop-other
invariant-loop-other g l = record {
  pass : l.pass ≡ l.fn.pass;
  received : All (λ (other : Sent _). IsAllReceived l.fn.pass other) l.yielded;
}
