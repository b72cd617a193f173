use Rattle.std.proofs.Common.{◌≡◌, ◌<◌, ◌≤◌, ℕ, length}
use Rattle.std.specs.Prelude.{slice_index}
use Rattle.lx_auto.specs.LeafViews.{leaf_view}
use Rattle.lx_auto.specs.Grouping.{IsSplitBelow}
use Rattle.lx_auto.proofs.sets.groups.split.Given as goal

abbrev pub invariant-loop-i : goal.invariant-loop-i
invariant-loop-i l = record {
  long : length l.classes.items ≡ l.i;
  few : length l.representatives.items ≤ l.i;
  within : (b : ℕ) → b < l.i → slice_index l.classes.items b < length l.representatives.items;
  small : (k : ℕ) → k < length l.representatives.items → slice_index l.representatives.items k < 256;
  split : IsSplitBelow (leaf_view l.leaf) l.groups.classes.items l.classes.items l.representatives.items l.i;
}
