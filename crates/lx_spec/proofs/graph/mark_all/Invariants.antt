use Rattle.std.proofs.Common.{take}
use Rattle.lx_spec.specs.Graph.{AreMarked}
use Rattle.lx_spec.proofs.graph.mark_all.Given as goal

abbrev pub invariant-loop-number : goal.invariant-loop-number
invariant-loop-number l = AreMarked (take l.number-index l.numbers) l.initial.marks.items l.marks.items l.initial.pending.items l.pending.items
