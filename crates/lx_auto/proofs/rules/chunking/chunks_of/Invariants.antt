use Rattle.std.proofs.Common.{[], take}
use Rattle.std.specs.Prelude.{reverse}
use Rattle.lx_auto.specs.NodeViews.{nodes_view}
use Rattle.lx_auto.specs.Chunks.{AreChunks, trees_from}
use Rattle.lx_auto.proofs.rules.chunking.chunks_of.Given as goal

abbrev pub invariant-loop-node : goal.invariant-loop-node
invariant-loop-node l = AreChunks (reverse l.chunks.items) (trees_from (nodes_view (take l.node-index l.nodes)) [])
