use Rattle.std.proofs.Common.{◌≡◌, ◌+◌, vec_len}
use Rattle.lx_spec.specs.Graph.{unmarked}
use Rattle.lx_spec.proofs.Marks.{Spreading}
use Rattle.lx_spec.proofs.graph.spread.Given as goal

abbrev pub invariant-loop-number : goal.invariant-loop-number
invariant-loop-number l = record {
  len : vec_len l.marks ≡ vec_len l.fn.marks;
  spreading : Spreading l.mentions l.fn.marks.items l.marks.items l.pending.items;
}

abbrev pub decreases-loop-number : goal.decreases-loop-number
decreases-loop-number l = unmarked l.marks.items + vec_len l.pending
