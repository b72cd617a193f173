use Rattle.std.proofs.Common.{below_more, rules}
use Rattle.lx_post.proofs.finishing.have_all_workers.Goals as goal

pub loop-worker-preserved : goal.loop-worker-preserved
loop-worker-preserved g c = let h = c.has_pass.ensures in let t = c.if-not-has_pass.false in below_more _ _ c.loop-worker.invariant (h.0 (search rules))
