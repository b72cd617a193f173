-- Blocks, one after the other, and the results of the passes over them.
use Rattle.std.specs.Prelude.{◌≡◌, ℕ, zero, suc, ◌+◌, ◌-◌, ◌<◌, ◌≤◌, Bool, true, false, ◌&&◌, List, [], ◌∷◌, length, slice_get, slice_set, Some}
use Rattle.std.specs.declared.alloc.Global.{Global}
use Rattle.std.specs.declared.vec.Vec.{Vec}
use Rattle.lx_auto.specs.Unfolded.{Unfolded, position_count}
use Rattle.lx_auto.specs.Nodes.{PlainNode, leaf_node, cat_node, alt_node, opt_node, plus_node, nodes_of}
use Rattle.lx_auto.specs.NodeLeaves.{leaves_in}
use Rattle.lx_auto.specs.NodeViews.{nodes_view}
use Rattle.lx_auto.specs.Marking.{flag, nulls_from}
use Rattle.lx_auto.specs.Passing.{HasNoEmptyPart, EndsAt, ended}
use Rattle.lx_auto.specs.declared.rules.block.Block.{Block}

-- true if a node is a position, or joins two expressions one after the other
abbrev pub is_sequence_node : PlainNode → Bool
is_sequence_node (leaf_node s) = true
is_sequence_node (cat_node n) = true
is_sequence_node (alt_node n) = false
is_sequence_node opt_node = false
is_sequence_node plus_node = false

abbrev pub are_sequence_nodes : List PlainNode → Bool
are_sequence_nodes [] = true
are_sequence_nodes (node ∷ nodes) = is_sequence_node node && are_sequence_nodes nodes

-- The flags of readable positions, those of n positions of a sequence set anew, the last one first. Each can be read after the previous one, and the
-- first one, p, if the sequence is entered.
abbrev pub entered_at : List Bool → Bool → ℕ → ℕ → Bool
entered_at marks f p zero = f
entered_at marks f p (suc n) = flag marks (p + n)

abbrev pub shifted : List Bool → Bool → ℕ → ℕ → List Bool → List Bool
shifted marks f p zero reads = reads
shifted marks f p (suc n) reads = shifted marks f p n (slice_set reads (p + n) (entered_at marks f p n))

-- a block with these nodes
pub record IsBlockOver (block : Block) (over : List PlainNode) (k : ℕ) : Type 0 where
  pub nodes : nodes_view block.nodes.items ≡ over
  pub nulls : block.nulls.items ≡ nulls_from over []
  pub base : block.base ≡ k
  pub count : block.count ≡ length (leaves_in over)
  pub is_sequence : block.is_sequence ≡ are_sequence_nodes over

abbrev pub AreBlocksOver : List Block → List (List PlainNode) → ℕ → Type 0
AreBlocksOver [] [] k = Unit {0}
AreBlocksOver [] (n ∷ ns) k = ⊥
AreBlocksOver (b ∷ bs) [] k = ⊥
AreBlocksOver (b ∷ bs) (n ∷ ns) k = IsBlockOver b n k × AreBlocksOver bs ns (k + length (leaves_in n))

-- the number of leaves of the blocks with these nodes
abbrev pub leaf_total : List (List PlainNode) → ℕ
leaf_total [] = 0
leaf_total (n ∷ ns) = length (leaves_in n) + leaf_total ns

-- the block is that of an expression
pub record IsBlock (block : Block) (e : Unfolded) : Type 0 where
  pub nodes : nodes_view block.nodes.items ≡ nodes_of e
  pub nulls : block.nulls.items ≡ nulls_from (nodes_of e) []
  pub count : block.count ≡ position_count e
  pub is_sequence : block.is_sequence ≡ are_sequence_nodes (nodes_of e)
  pub no_empty : HasNoEmptyPart e

-- the blocks are those of expressions, one after the other, whose positions are numbered from k on
abbrev pub AreBlocks : List Block → List Unfolded → ℕ → Type 0
AreBlocks [] [] k = Unit {0}
AreBlocks [] (e ∷ es) k = ⊥
AreBlocks (b ∷ bs) [] k = ⊥
AreBlocks (b ∷ bs) (e ∷ es) k = IsBlock b e × (b.base ≡ k) × AreBlocks bs es (k + position_count e)

-- For each node of a block a flag that is true if a marked position can be last in it; for a sequence only the flag of the last node. The list is
-- empty only if no position is marked.
pub record HasEnds (marks ends : List Bool) (block : Block) (e : Unfolded) : Type 0 where
  pub at : block.is_sequence ≡ false → EndsAt marks ends 0 e block.base
  pub last : flag ends (length ends - 1) ≡ ended marks e block.base
  pub untouched : ends ≡ [] → (q : ℕ) → block.base ≤ q → q < block.base + position_count e → flag marks q ≡ false

-- the ends of the first n blocks
pub record HaveEnds (marks : List Bool) (blocks : List Block) (ends : List (Vec Bool Global)) (n : ℕ) : Type 0 where
  pub long : length ends ≡ n
  pub each : (i : ℕ) (block : Block) (own : Vec Bool Global) (e : Unfolded) → slice_get blocks i ≡ Some block → slice_get ends i ≡ Some own → IsBlock block e →
      HasEnds marks own.items block e

-- true if a marked position can be last in a block
abbrev pub last_flag : Vec Bool Global → Bool
last_flag ends = flag ends.items (length ends.items - 1)

-- none of the flags from a place on up to another is set
pub record IsClear (flags : List Bool) (from to : ℕ) : Type 0 where
  pub each : (q : ℕ) → from ≤ q → q < to → flag flags q ≡ false
