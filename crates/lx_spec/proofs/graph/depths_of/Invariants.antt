use Rattle.std.proofs.Common.{◌≡◌, vec_len}
use Rattle.lx_spec.specs.Graph.{IsMention, AreSound, Reach}
use Rattle.lx_spec.proofs.graph.depths_of.Given as goal

abbrev pub invariant-loop : goal.invariant-loop
invariant-loop l = record {
  len : vec_len l.depths ≡ l.count;
  sound : AreSound (IsMention l.mentions) l.depths.items;
  reach : Reach (IsMention l.mentions) l.depths.items l.counter;
}
