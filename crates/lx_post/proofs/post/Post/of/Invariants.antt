use Rattle.std.proofs.Common.{◌≡◌, ℕ, ◌<◌, ◌≤◌, [], get_or, vec_len, vec_capacity}
use Rattle.crossbeam_queue.specs.Passes.{view}
use Rattle.lx_post.specs.Posted.{Sent, fresh_send}
use Rattle.lx_post.specs.Posting.{no_worker, taker}
use Rattle.lx_post.proofs.post.Post.of.Given as goal

abbrev pub invariant-loop-worker : goal.invariant-loop-worker
invariant-loop-worker g l = record {
  post : (l.pass.table_id ≡ l.post.queue) × (l.pass.me.1 ≡ []);
  known : view l.pass ≡ taker l.plan l.worker [] no_worker [];
  room : l.workers ≤ vec_capacity l.passes;
  count : vec_len l.passes ≡ l.worker;
  passes : (w : ℕ) (d : Sent _) → w < l.worker → get_or l.passes.items w d ≡ fresh_send l.post l.plan w;
}
