use Rattle.lx_auto.proofs.Filling.{AreNone}
use Rattle.lx_auto.proofs.unfolding.fill.no_fragments.Given as goal

abbrev pub invariant-loop-definition : goal.invariant-loop-definition
invariant-loop-definition l = AreNone l.fragments.items
