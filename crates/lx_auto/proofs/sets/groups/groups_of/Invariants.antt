use Rattle.std.proofs.Common.{All}
use Rattle.lx_auto.specs.LeafViews.{leaf_view, leaves_view}
use Rattle.lx_auto.specs.Grouping.{RespectsGroups, RespectGroupsBelow}
use Rattle.lx_auto.proofs.sets.groups.groups_of.Given as goal

abbrev pub invariant-loop-i : goal.invariant-loop-i
invariant-loop-i l = record {
  below : RespectGroupsBelow (leaves_view l.leaves) l.groups.classes.items l.groups.representatives.items l.i;
  kept : All (λ leaf. RespectsGroups (leaf_view leaf) l.groups.classes.items l.groups.representatives.items) l.kept.items;
}
