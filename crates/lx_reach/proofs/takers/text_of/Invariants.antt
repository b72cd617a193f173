use Rattle.std.specs.Prelude.{⊤}
use Rattle.lx_reach.proofs.takers.text_of.Given as goal

abbrev pub invariant-loop-at : goal.invariant-loop-at
invariant-loop-at l = ⊤

abbrev pub decreases-loop-at : goal.decreases-loop-at
decreases-loop-at l = l.at
