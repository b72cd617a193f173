use Rattle.std.proofs.Common.{◌≡◌, ◌<◌, ℕ}
use Rattle.lx_auto.specs.Leaves.{leaf_has}
use Rattle.lx_auto.specs.LeafViews.{leaf_view}
use Rattle.lx_auto.specs.Grouping.{representative_of}
use Rattle.lx_auto.proofs.sets.groups.splits.Given as goal

abbrev pub invariant-loop-i : goal.invariant-loop-i
invariant-loop-i l = (b : ℕ) → b < l.i → leaf_has (leaf_view l.leaf) b ≡ leaf_has (leaf_view l.leaf) (representative_of l.groups.classes.items l.groups.representatives.items b)
