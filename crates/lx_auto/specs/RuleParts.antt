-- The data of a rule for following its positions, and the facts about it.
use Rattle.std.specs.Prelude.{◌≡◌, ℕ, ◌+◌, ◌<◌, ◌≤◌, ◌↔◌, ◌⊎◌, Bool, true, List, [], length, slice_get, Some}
use Rattle.lx_auto.specs.Unfolded.{Unfolded, empty, position_count}
use Rattle.lx_auto.specs.Nodes.{PlainNode, nodes_of}
use Rattle.lx_auto.specs.NodeViews.{nodes_view}
use Rattle.lx_auto.specs.NodeLeaves.{leaves_in}
use Rattle.lx_auto.specs.Marking.{flag, nulls_from}
use Rattle.lx_auto.specs.Passing.{IsSimplified}
use Rattle.lx_auto.specs.Positions.{CanRead}
use Rattle.lx_auto.specs.Blocks.{AreBlocks}
use Rattle.lx_auto.specs.Outlines as outlines
use Rattle.lx_auto.specs.PositionSets.{NumberedRule, size_of}
use Rattle.lx_auto.specs.declared.rules.rule_part.RulePart.{RulePart}

-- the outline and the blocks are those of a way to split an expression into blocks that is equivalent to this one
pub record IsDividedBy (part : RulePart) (e : Unfolded) (k : ℕ) : Type 0 where
  pub chunking : outlines.Chunking
  pub equivalent : outlines.AreEquivalentExpressions (outlines.tree_of chunking) e
  pub outline : nodes_view part.outline.items ≡ nodes_of (outlines.outline chunking)
  pub nulls : part.nulls.items ≡ nulls_from (nodes_of (outlines.outline chunking)) []
  pub blocks : AreBlocks part.blocks.items (outlines.blocks_of chunking) k

-- an expression without nodes has no block
abbrev pub IsDivided : RulePart → Unfolded → ℕ → Type 0
IsDivided part e k = ((e ≡ empty) × (part.outline.items ≡ []) × (part.blocks.items ≡ [])) ⊎ IsDividedBy part e k

pub record IsPartOf (part : RulePart) (r : NumberedRule) : Type 0 where
  pub nodes : nodes_view part.nodes.items ≡ nodes_of r.tree
  pub divided : IsDivided part r.tree r.base
  pub base : part.base ≡ r.base
  pub count : part.count ≡ position_count r.tree
  pub line_end : part.line_end ≡ r.rule.reading.line_end
  pub simplified : IsSimplified r.tree

-- the parts are those of the rules, one by one, and the positions of the rules are below the total
pub record ArePartsOf (parts : List RulePart) (rules : List NumberedRule) (total : ℕ) : Type 0 where
  pub long : length parts ≡ length rules
  pub each : (i : ℕ) (part : RulePart) (r : NumberedRule) → slice_get parts i ≡ Some part → slice_get rules i ≡ Some r → IsPartOf part r
  pub within : (i : ℕ) (r : NumberedRule) → slice_get rules i ≡ Some r → r.base + size_of r ≤ total

-- The flags of an expression's positions are true for those that can be read next; all others are as they were.
pub record AreReadsOf (r : NumberedRule) (marks : List Bool) (entered : Bool) (old new : List Bool) : Type 0 where
  pub long : length new ≡ length old
  pub own : (q : ℕ) → r.base ≤ q → q < r.base + position_count r.tree → (flag new q ≡ true) ↔ CanRead (λ p. flag marks p ≡ true) (entered ≡ true) r.tree r.base q
  pub below : (q : ℕ) → q < r.base → flag new q ≡ flag old q
  pub above : (q : ℕ) → r.base + position_count r.tree ≤ q → flag new q ≡ flag old q

-- the part is made of these nodes
pub record IsPartOver (part : RulePart) (over : List PlainNode) (first : ℕ) (ends : Bool) : Type 0 where
  pub nodes : nodes_view part.nodes.items ≡ over
  pub divided : (e : Unfolded) → over ≡ nodes_of e → IsSimplified e → IsDivided part e first
  pub base : part.base ≡ first
  pub count : part.count ≡ length (leaves_in over)
  pub line_end : part.line_end ≡ ends

-- the nodes are those of some expression
pub record AreNodes (nodes : List PlainNode) : Type 0 where
  pub tree : Unfolded
  pub of : nodes ≡ nodes_of tree
  pub simplified : IsSimplified tree

-- the last of the first n parts ends before this position
pub record EndBefore (parts : List RulePart) (n until : ℕ) : Type 0 where
  pub place : ℕ
  pub last : RulePart
  pub behind : n ≡ place + 1
  pub at : slice_get parts place ≡ Some last
  pub below : last.base + last.count < until
