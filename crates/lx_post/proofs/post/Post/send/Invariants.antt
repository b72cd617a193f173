use Rattle.std.proofs.Common.{◌≡◌}
use Rattle.lx_post.proofs.post.Post.send.Given as goal

abbrev pub invariant-loop : goal.invariant-loop
invariant-loop g l = record { note : l.left ≡ l.fn.note; pass : l.pass ≡ l.initial.pass }
