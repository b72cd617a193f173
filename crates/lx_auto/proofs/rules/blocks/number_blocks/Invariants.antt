use Rattle.std.proofs.Common.{◌≡◌, ◌+◌, take}
use Rattle.lx_auto.specs.Blocks.{AreBlocksOver, leaf_total}
use Rattle.lx_auto.specs.Chunks.{block_nodes}
use Rattle.lx_auto.proofs.rules.blocks.number_blocks.Given as goal

abbrev pub invariant-loop-i : goal.invariant-loop-i
invariant-loop-i l = record {
  blocks : AreBlocksOver l.blocks.items (block_nodes (take l.i l.nodes)) l.base;
  next : l.next ≡ l.base + leaf_total (block_nodes (take l.i l.nodes));
}
