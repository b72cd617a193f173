use Rattle.std.proofs.Common.{◌≡◌}
use Rattle.lx_post.proofs.post.Post.receive.Given as goal

abbrev pub invariant-loop : goal.invariant-loop
invariant-loop g l = l.pass ≡ l.initial.pass
