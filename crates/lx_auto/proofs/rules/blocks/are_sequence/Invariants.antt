use Rattle.std.proofs.Common.{◌≡◌, ◌&&◌, drop}
use Rattle.lx_auto.specs.Blocks.{are_sequence_nodes}
use Rattle.lx_auto.specs.NodeViews.{nodes_view}
use Rattle.lx_auto.proofs.rules.blocks.are_sequence.Given as goal

abbrev pub invariant-loop-node : goal.invariant-loop-node
invariant-loop-node l = (l.is_sequence && are_sequence_nodes (nodes_view (drop l.node-index l.nodes))) ≡ are_sequence_nodes (nodes_view l.nodes)
