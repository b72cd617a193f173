use Rattle.std.proofs.Common.{◌≡◌, ℕ, ◌+◌, ◌<◌, ◌≤◌, vec_len, get_or, min}
use Rattle.std.specs.Prelude.{slice_index}
use Rattle.lx_spec.specs.Graph.{nowhere, IsMention, AreSound}
use Rattle.lx_spec.proofs.graph.deepen.Given as goal

abbrev pub invariant-loop-mention : goal.invariant-loop-mention
invariant-loop-mention l = record {
  len : vec_len l.depths ≡ vec_len l.initial.depths;
  sound : AreSound (IsMention l.mentions) l.initial.depths.items → AreSound (IsMention l.mentions) l.depths.items;
  grow : (i : ℕ) → slice_index l.initial.depths.items i ≤ slice_index l.depths.items i;
  done : (k : ℕ) → k < l.mention-index → min (slice_index l.initial.depths.items (get_or l.mentions k nowhere).to) 31 + 1 ≤ slice_index l.depths.items (get_or l.mentions k nowhere).from;
}
