-- The leaves of nodes, in order.
use Rattle.std.specs.Prelude.{List, [], ◌∷◌, ◌++◌}
use Rattle.lx_auto.specs.Nodes.{PlainNode, leaf_node, cat_node, alt_node, opt_node, plus_node}
use Rattle.lx_auto.specs.Leaves.{PlainLeaf, one_of_set}

-- the leaf of a node, if it is one
abbrev pub leaf_in : PlainNode → List PlainLeaf
leaf_in (leaf_node s) = one_of_set s ∷ []
leaf_in (cat_node n) = []
leaf_in (alt_node n) = []
leaf_in opt_node = []
leaf_in plus_node = []

abbrev pub leaves_in : List PlainNode → List PlainLeaf
leaves_in [] = []
leaves_in (n ∷ nodes) = leaf_in n ++ leaves_in nodes
