use Rattle.lx_auto.specs.Unfolding.{AreFragments}
use Rattle.lx_auto.proofs.unfolding.fill.fill_fragments.Given as goal

abbrev pub invariant-loop-level : goal.invariant-loop-level
invariant-loop-level l = AreFragments l.names.definitions.now l.fragments.items

abbrev pub invariant-loop-number : goal.invariant-loop-number
invariant-loop-number l = AreFragments l.names.definitions.now l.fragments.items
