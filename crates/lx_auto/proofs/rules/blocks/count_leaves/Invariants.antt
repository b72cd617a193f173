use Rattle.std.proofs.Common.{◌≡◌, ◌+◌, ◌≤◌, length, drop}
use Rattle.lx_auto.specs.NodeLeaves.{leaves_in}
use Rattle.lx_auto.specs.NodeViews.{nodes_view}
use Rattle.lx_auto.proofs.rules.blocks.count_leaves.Given as goal

abbrev pub invariant-loop-node : goal.invariant-loop-node
invariant-loop-node l = record {
  so_far : l.count + length (leaves_in (nodes_view (drop l.node-index l.nodes))) ≡ length (leaves_in (nodes_view l.nodes));
  small : l.count ≤ l.node-index;
}
