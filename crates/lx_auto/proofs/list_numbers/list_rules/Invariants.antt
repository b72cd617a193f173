use Rattle.std.proofs.Common.{length}
use Rattle.lx_ere.specs.Regex.{Regex}
use Rattle.lx_rules.specs.Plain.{PlainSpec}
use Rattle.lx_auto.specs.PositionSets.{numbered}
use Rattle.lx_auto.specs.PositionTables.{ArePositionsOf, AreMatchedBelow}
use Rattle.lx_auto.specs.RuleLists.{AreListed, AreUnmarked, IsListTable}
use Rattle.lx_auto.specs.Unfolded.{Unfolded}
use Rattle.lx_auto.proofs.list_numbers.list_rules.Given as goal

abbrev pub invariant-loop-j : goal.invariant-loop-j
invariant-loop-j l = record {
  table : IsListTable l.lists.sets.items l.lists.numbers;
  unmarked : AreUnmarked l.marks.items l.positions.total;
  listed : (spec : PlainSpec) (tree_of : Regex → Unfolded) → ArePositionsOf spec tree_of l.positions →
      AreMatchedBelow spec tree_of l.explored.table.sets.items l.explored.matched.items (length l.explored.table.sets.items) →
      AreListed (numbered tree_of 0 spec.rules) l.explored.table.sets.items l.lists.sets.items l.numbers.items l.j;
}
