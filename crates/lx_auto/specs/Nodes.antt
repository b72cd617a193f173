-- Expressions as nodes in post-order: a node's only child, or its right one, comes before it, and the left one before that.
use Rattle.std.specs.Prelude.{ℕ, List, [], ◌∷◌, ◌++◌, length}
use Rattle.std.specs.FinSet as set
use Rattle.std.specs.Ordering.{nat_cmp}
use Rattle.lx_auto.specs.Unfolded.{Unfolded, empty, leaf, cat, alt, opt, plus}

pub data PlainNode : Type 0 where
  leaf_node : set.FinSet nat_cmp → PlainNode
  -- with the number of the right child's nodes
  cat_node : ℕ → PlainNode
  alt_node : ℕ → PlainNode
  opt_node : PlainNode
  plus_node : PlainNode

-- the empty word has no nodes
abbrev pub nodes_of : Unfolded → List PlainNode
nodes_of empty = []
nodes_of (leaf s) = leaf_node s ∷ []
nodes_of (cat a b) = nodes_of a ++ (nodes_of b ++ cat_node (length (nodes_of b)) ∷ [])
nodes_of (alt a b) = nodes_of a ++ (nodes_of b ++ alt_node (length (nodes_of b)) ∷ [])
nodes_of (opt a) = nodes_of a ++ opt_node ∷ []
nodes_of (plus a) = nodes_of a ++ plus_node ∷ []
