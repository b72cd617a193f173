-- Expressions made of nodes in post-order, one node after the other, and split into blocks.
use Rattle.std.specs.Prelude.{◌≡◌, ◌⊎◌, ℕ, Bool, true, ◌&&◌, ◌||◌, List, [], ◌∷◌, Option, Some, None, map}
use Rattle.std.specs.declared.alloc.Global.{Global}
use Rattle.std.specs.declared.vec.Vec.{Vec}
use Rattle.lx_auto.specs.Unfolded.{Unfolded, empty, leaf, cat, alt, opt, plus, nullable}
use Rattle.lx_auto.specs.Nodes.{PlainNode, leaf_node, cat_node, alt_node, opt_node, plus_node, nodes_of}
use Rattle.lx_auto.specs.NodeViews.{nodes_view}
use Rattle.lx_auto.specs.Outlines as outlines
use Rattle.lx_auto.specs.Passing.{HasNoEmptyPart}
use Rattle.lx_auto.specs.declared.unfolding.node.Node.{Node}
use Rattle.lx_auto.specs.declared.rules.chunk.GrowingChunk.{GrowingChunk}
use Rattle.lx_auto.specs.declared.rules.chunk.Outlined.{Outlined}
use Rattle.lx_auto.specs.declared.rules.chunk.BinaryOperator.{BinaryOperator}
use Rattle.lx_auto.specs.declared.rules.chunk.BinaryOperator.TheVariants.{Concatenation, Alternation}
use Rattle.lx_auto.specs.declared.rules.chunk.Chunk.{Chunk}
use Rattle.lx_auto.specs.declared.rules.chunk.Chunk.TheVariants.{Small, Large, Growing}
use Rattle.lx_auto.specs.declared.rules.chunk.UnaryOperator.{UnaryOperator}
use Rattle.lx_auto.specs.declared.rules.chunk.UnaryOperator.TheVariants.{Optional, OneOrMore}
use Rattle.lx_auto.specs.declared.rules.chunk.SingleBlock.{SingleBlock}

-- the operator of a node above two expressions: its node, a flag for the empty word, its expression
abbrev pub binary_node : BinaryOperator → ℕ → PlainNode
binary_node Concatenation n = cat_node n
binary_node Alternation n = alt_node n

abbrev pub binary_null : BinaryOperator → Bool → Bool → Bool
binary_null Concatenation f g = f && g
binary_null Alternation f g = f || g

abbrev pub binary_expression : BinaryOperator → Unfolded → Unfolded → Unfolded
binary_expression Concatenation a b = cat a b
binary_expression Alternation a b = alt a b

-- the same for the operator of a node above one expression
abbrev pub unary_node : UnaryOperator → PlainNode
unary_node Optional = opt_node
unary_node OneOrMore = plus_node

abbrev pub unary_null : UnaryOperator → Bool → Bool
unary_null Optional f = true
unary_null OneOrMore f = f

abbrev pub unary_expression : UnaryOperator → Unfolded → Unfolded
unary_expression Optional a = opt a
unary_expression OneOrMore a = plus a

-- The stack has the expressions that were built, the last one first. If there are too few, none is left.
abbrev pub binary_step : (Unfolded → Unfolded → Unfolded) → List Unfolded → List Unfolded
binary_step make [] = []
binary_step make (b ∷ []) = []
binary_step make (b ∷ a ∷ trees) = make a b ∷ trees

abbrev pub unary_step : (Unfolded → Unfolded) → List Unfolded → List Unfolded
unary_step make [] = []
unary_step make (a ∷ trees) = make a ∷ trees

abbrev pub tree_step : PlainNode → List Unfolded → List Unfolded
tree_step (leaf_node s) trees = leaf s ∷ trees
tree_step (cat_node n) trees = binary_step cat trees
tree_step (alt_node n) trees = binary_step alt trees
tree_step opt_node trees = unary_step opt trees
tree_step plus_node trees = unary_step plus trees

abbrev pub trees_from : List PlainNode → List Unfolded → List Unfolded
trees_from [] trees = trees
trees_from (node ∷ nodes) trees = trees_from nodes (tree_step node trees)

abbrev pub block_nodes : List (Vec (Node) Global) → List (List PlainNode)
block_nodes blocks = map (λ v. nodes_view v.items) blocks

-- the block is this expression
pub record IsSingleBlockOf (w : SingleBlock) (e : Unfolded) : Type 0 where
  pub nodes : nodes_view w.nodes.items ≡ nodes_of e
  pub null : w.nullable ≡ nullable e

-- the blocks and the outline are those of a way to split an expression into blocks that is equivalent to this one
pub record IsOutlinedOf (o : Outlined) (e : Unfolded) : Type 0 where
  pub chunking : outlines.Chunking
  pub equivalent : outlines.AreEquivalentExpressions (outlines.tree_of chunking) e
  pub outline : nodes_view o.outline.items ≡ nodes_of (outlines.outline chunking)
  pub blocks : block_nodes o.blocks.items ≡ map nodes_of (outlines.blocks_of chunking)

-- a block, joined to the expression after it, is equivalent to this expression
pub record IsGrowingChunkOf (l : GrowingChunk) (e : Unfolded) : Type 0 where
  pub one : Unfolded
  pub other : Unfolded
  pub first : IsSingleBlockOf l.first one
  pub rest : IsOutlinedOf l.rest other
  pub equivalent : outlines.AreEquivalentExpressions (binary_expression l.operator one other) e

abbrev pub IsChunkOf : Chunk → Unfolded → Type 0
IsChunkOf (Small w) e = IsSingleBlockOf w e
IsChunkOf (Large o) e = IsOutlinedOf o e
IsChunkOf (Growing l) e = IsGrowingChunkOf l e

abbrev pub AreChunks : List Chunk → List Unfolded → Type 0
AreChunks [] [] = Unit {0}
AreChunks [] (e ∷ es) = ⊥
AreChunks (p ∷ ps) [] = ⊥
AreChunks (p ∷ ps) (e ∷ es) = IsChunkOf p e × AreChunks ps es

-- the first of the expressions is taken off, if there is one
abbrev pub IsPopped : List Unfolded → List Chunk → Option Chunk → Type 0
IsPopped trees rest None = (trees ≡ []) × (rest ≡ [])
IsPopped trees rest (Some p) = (e : Unfolded) × (es : List Unfolded) × (trees ≡ e ∷ es) × IsChunkOf p e × AreChunks rest es

-- an expression without nodes has no block
abbrev pub IsSplitOf : Outlined → Unfolded → Type 0
IsSplitOf o e = ((e ≡ empty) × (o.outline.items ≡ []) × (o.blocks.items ≡ [])) ⊎ (HasNoEmptyPart e × IsOutlinedOf o e)
