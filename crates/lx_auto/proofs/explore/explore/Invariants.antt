use Rattle.std.proofs.Common.{◌≡◌, ◌≤◌, ◌+◌, ◌*◌, ◌-◌, ℕ, false, length}
use Rattle.lx_ere.specs.Regex.{Regex}
use Rattle.lx_rules.specs.views.Specs.{spec_view}
use Rattle.lx_auto.specs.Unfolded.{Unfolded}
use Rattle.lx_auto.specs.Marking.{flag}
use Rattle.lx_auto.specs.SetTable.{IsNumbering}
use Rattle.lx_auto.specs.Exploring.{start_count}
use Rattle.lx_auto.specs.PositionTables.{ArePositionsOf, AreMatchedBelow, IsExploredBy}
use Rattle.lx_auto.proofs.explore.explore.Given as goal

abbrev pub invariant-starts : goal.invariant-starts
invariant-starts l = record {
  numbering : IsNumbering l.table.sets.items l.table.numbers;
  room : length l.table.sets.items ≤ l.limit;
  explored : (tree_of : Regex → Unfolded) → ArePositionsOf (spec_view l.spec) tree_of l.positions →
      IsExploredBy (spec_view l.spec) tree_of l.positions l.table.sets.items l.targets.items (2 * l.condition);
}

abbrev pub invariant-sets : goal.invariant-sets
invariant-sets l = record {
  numbering : IsNumbering l.table.sets.items l.table.numbers;
  room : length l.table.sets.items ≤ l.limit;
  below : length l.matched.items ≤ length l.table.sets.items;
  marks : length l.marks.items ≡ l.positions.total;
  reads : length l.reads.items ≡ l.positions.total;
  clear_marks : (q : ℕ) → flag l.marks.items q ≡ false;
  clear_reads : (tree_of : Regex → Unfolded) → ArePositionsOf (spec_view l.spec) tree_of l.positions → (q : ℕ) → flag l.reads.items q ≡ false;
  explored : (tree_of : Regex → Unfolded) → ArePositionsOf (spec_view l.spec) tree_of l.positions →
      IsExploredBy (spec_view l.spec) tree_of l.positions l.table.sets.items l.targets.items (start_count (spec_view l.spec) + length l.matched.items);
  matched : (tree_of : Regex → Unfolded) → ArePositionsOf (spec_view l.spec) tree_of l.positions →
      AreMatchedBelow (spec_view l.spec) tree_of l.table.sets.items l.matched.items (length l.matched.items);
}

abbrev pub decreases-sets : goal.decreases-sets
decreases-sets l = l.limit - length l.matched.items
