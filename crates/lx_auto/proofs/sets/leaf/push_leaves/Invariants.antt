use Rattle.std.proofs.Common.{◌≡◌, ◌++◌, drop}
use Rattle.lx_auto.specs.NodeViews.{nodes_view}
use Rattle.lx_auto.specs.LeafViews.{leaves_view}
use Rattle.lx_auto.specs.NodeLeaves.{leaves_in}
use Rattle.lx_auto.proofs.sets.leaf.push_leaves.Given as goal

abbrev pub invariant-loop-node : goal.invariant-loop-node
invariant-loop-node l = leaves_view l.leaves.items ++ leaves_in (nodes_view (drop l.node-index l.nodes)) ≡ leaves_view l.fn.leaves.items ++ leaves_in (nodes_view l.nodes)
