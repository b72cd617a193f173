-- The facts about the positions of a specification.
use Rattle.std.specs.Prelude.{◌≡◌, ℕ, ◌+◌, ◌<◌, List, length, slice_index_or, Option, None}
use Rattle.lx_ere.specs.Regex.{Regex}
use Rattle.lx_rules.specs.Plain.{PlainSpec}
use Rattle.lx_auto.specs.Unfolded.{Unfolded}
use Rattle.lx_auto.specs.PositionSets.{numbered}
use Rattle.lx_auto.specs.RuleParts.{ArePartsOf}
use Rattle.lx_auto.specs.Leaves.{AreLeavesOf, AreGroupsOf}
use Rattle.lx_auto.specs.LeafViews.{leaves_view}
use Rattle.lx_auto.specs.SetTable.{Positions, set_of}
use Rattle.lx_auto.specs.Sets.{IsEarliestMatched}
use Rattle.lx_auto.specs.Exploring.{IsExplored, start_count}
use Rattle.lx_auto.specs.declared.explored.Explored.{Explored}
use Rattle.lx_auto.specs.declared.sets.position_table.PositionTable.{PositionTable}

-- the parts, the leaves and the groups are those of the rules, whose expressions are those of tree_of
pub record ArePositionsOf (spec : PlainSpec) (tree_of : Regex → Unfolded) (positions : PositionTable) : Type 0 where
  pub parts : ArePartsOf positions.parts.items (numbered tree_of 0 spec.rules) positions.total
  pub leaves : AreLeavesOf (numbered tree_of 0 spec.rules) (leaves_view positions.leaves.items)
  pub groups : AreGroupsOf (leaves_view positions.leaves.items) positions.groups.classes.items positions.groups.representatives.items

-- the earliest rule that each of the first n sets matches
pub record AreMatchedBelow (spec : PlainSpec) (tree_of : Regex → Unfolded) (sets : List Positions) (matched : List (Option ℕ)) (n : ℕ) : Type 0 where
  pub long : length matched ≡ n
  pub each : (j : ℕ) → j < n → IsEarliestMatched (numbered tree_of 0 spec.rules) (set_of sets j) (slice_index_or matched j None)

-- the sets that were reached by the steps of these positions, and the steps of the first n states
abbrev pub IsExploredBy : PlainSpec → (Regex → Unfolded) → PositionTable → List Positions → List (Option ℕ) → ℕ → Type 0
IsExploredBy spec tree_of positions sets targets n = IsExplored spec tree_of (leaves_view positions.leaves.items) positions.groups.representatives.items sets targets n

-- all sets are reached, the steps of all states are known, and the rule that each set matches
pub record AreStatesOf (spec : PlainSpec) (tree_of : Regex → Unfolded) (positions : PositionTable) (explored : Explored) : Type 0 where
  pub steps : IsExploredBy spec tree_of positions explored.table.sets.items explored.targets.items (start_count spec + length explored.table.sets.items)
  pub matched : AreMatchedBelow spec tree_of explored.table.sets.items explored.matched.items (length explored.table.sets.items)
