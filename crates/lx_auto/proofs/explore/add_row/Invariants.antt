use Rattle.std.proofs.Common.{◌≡◌, ◌≤◌, ◌<◌, ◌+◌, ◌*◌, ℕ, length}
use Rattle.lx_ere.specs.Regex.{Regex}
use Rattle.lx_rules.specs.Plain.{PlainSpec}
use Rattle.lx_auto.specs.Unfolded.{Unfolded}
use Rattle.lx_auto.specs.LeafViews.{leaves_view}
use Rattle.lx_auto.specs.PositionSets.{numbered}
use Rattle.lx_auto.specs.SetTable.{IsNumbering, set_of}
use Rattle.lx_auto.specs.Exploring.{AreReachedSets, HaveSteps, IsSource, IsRowOf}
use Rattle.lx_auto.proofs.explore.add_row.Given as goal

abbrev pub invariant-loop-class : goal.invariant-loop-class
invariant-loop-class l = record {
  numbering : IsNumbering l.table.sets.items l.table.numbers;
  room : length l.table.sets.items ≤ l.limit;
  more : length l.fn.table.sets.items ≤ length l.table.sets.items;
  long : length l.targets.items ≡ length l.fn.targets.items + l.class;
  kept : (i : ℕ) → i < length l.fn.table.sets.items → set_of l.table.sets.items i ≡ set_of l.fn.table.sets.items i;
  source : (spec : PlainSpec) (tree_of : Regex → Unfolded) (state : ℕ) →
      IsRowOf spec tree_of (leaves_view l.leaves) l.representatives state l.from l.fn.table.sets.items l.fn.targets.items →
      IsSource spec (numbered tree_of 0 spec.rules) l.table.sets.items state l.from;
  reached : (spec : PlainSpec) (tree_of : Regex → Unfolded) (state : ℕ) →
      IsRowOf spec tree_of (leaves_view l.leaves) l.representatives state l.from l.fn.table.sets.items l.fn.targets.items →
      AreReachedSets spec (numbered tree_of 0 spec.rules) l.table.sets.items;
  steps : (spec : PlainSpec) (tree_of : Regex → Unfolded) (state : ℕ) →
      IsRowOf spec tree_of (leaves_view l.leaves) l.representatives state l.from l.fn.table.sets.items l.fn.targets.items →
      HaveSteps spec (numbered tree_of 0 spec.rules) (leaves_view l.leaves) l.representatives l.table.sets.items l.targets.items (state * length l.representatives + l.class);
}
