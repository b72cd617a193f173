use Rattle.std.proofs.Common.{◌≡◌, vec_len}
use Rattle.lx_spec.proofs.Marks.{Listing}
use Rattle.lx_spec.proofs.graph.mentioners_of.Given as goal

abbrev pub invariant-loop-mention : goal.invariant-loop-mention
invariant-loop-mention l = record {
  len : vec_len l.mentioners ≡ l.count;
  listing : Listing l.mentions l.mentioners.items l.mention-index;
}
