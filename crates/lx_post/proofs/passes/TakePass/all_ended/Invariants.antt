use Rattle.std.proofs.Common.{◌≡◌, ℕ, ◌<◌, get_or, true, false}
use Rattle.lx_post.proofs.passes.TakePass.all_ended.Given as goal

abbrev pub invariant-loop-w : goal.invariant-loop-w
invariant-loop-w g l = (k : ℕ) → k < l.w → get_or l.self-inside.ended k false ≡ true
