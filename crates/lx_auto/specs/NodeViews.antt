-- The nodes of the code without their place in memory.
use Rattle.std.specs.Prelude.{◌≡◌, List, ◌++◌, map}
use Rattle.lx_auto.specs.Unfolded.{Unfolded}
use Rattle.lx_auto.specs.Nodes.{PlainNode, leaf_node, cat_node, alt_node, opt_node, plus_node, nodes_of}
use Rattle.lx_auto.specs.Parts.{part_of}
use Rattle.lx_auto.specs.declared.unfolding.node.Node.{Node}
use Rattle.lx_auto.specs.declared.unfolding.node.Node.TheVariants.{Leaf, Cat, Alt, Optional, Repeated}
use Rattle.lx_auto.specs.declared.unfolding.part.Part.{Part}

abbrev pub node_view : Node → PlainNode
node_view (Leaf s) = leaf_node s.now
node_view (Cat size) = cat_node size
node_view (Alt size) = alt_node size
node_view Optional = opt_node
node_view Repeated = plus_node

abbrev pub nodes_view : List Node → List PlainNode
nodes_view nodes = map node_view nodes

-- the nodes of the expression come after those of old, and nothing else was added
pub record Appends (t : Unfolded) (old new : List PlainNode) (p : Part) : Type 0 where
  pub nodes : new ≡ old ++ nodes_of t
  pub part : p ≡ part_of t

-- The nodes of two expressions come after others, and are replaced by those of the expression that is made of both.
abbrev pub Joins : (Unfolded → Unfolded → Unfolded) → List PlainNode → List PlainNode → Part → Part → Part → Type 0
Joins make old new left right p =
    (base : List PlainNode) (a b : Unfolded) → old ≡ base ++ (nodes_of a ++ nodes_of b) → left ≡ part_of a → right ≡ part_of b → Appends (make a b) base new p

-- The nodes of an expression come after others, and are replaced by those of the expression that is made of it.
abbrev pub Changes : (Unfolded → Unfolded) → List PlainNode → List PlainNode → Part → Part → Type 0
Changes make old new body p = (base : List PlainNode) (a : Unfolded) → old ≡ base ++ nodes_of a → body ≡ part_of a → Appends (make a) base new p
