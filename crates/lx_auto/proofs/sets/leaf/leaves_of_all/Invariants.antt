use Rattle.std.proofs.Common.{◌≡◌, ◌++◌, drop}
use Rattle.lx_auto.specs.LeafViews.{leaves_view, leaves_of_parts}
use Rattle.lx_auto.proofs.sets.leaf.leaves_of_all.Given as goal

abbrev pub invariant-loop-i : goal.invariant-loop-i
invariant-loop-i l = leaves_view l.leaves.items ++ leaves_of_parts (drop l.i l.parts) ≡ leaves_of_parts l.parts
