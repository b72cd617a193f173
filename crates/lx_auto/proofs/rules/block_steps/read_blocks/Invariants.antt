use Rattle.std.proofs.Common.{◌≡◌, ◌≤◌, ◌+◌, ℕ, List, length, take, drop}
use Rattle.lx_auto.specs.Unfolded.{Unfolded}
use Rattle.lx_auto.specs.Blocks.{AreBlocks, HaveEnds, IsClear}
use Rattle.lx_auto.specs.Outlines as outlines
use Rattle.lx_auto.proofs.rules.block_steps.read_blocks.Given as goal

abbrev pub invariant-down : goal.invariant-down
invariant-down l = record {
  set : (es : List Unfolded) (k : ℕ) → AreBlocks l.blocks es k → HaveEnds l.marks l.blocks l.ends (length l.blocks) →
      IsClear l.fn.reads.items k (k + outlines.positions_of es) →
      l.reads.items ≡ outlines.read_blocks l.marks l.entered (drop l.rest es) l.rest (k + outlines.positions_of (take l.rest es)) l.fn.reads.items;
  long : length l.reads.items ≡ length l.fn.reads.items;
  within : l.rest ≤ length l.blocks;
}

abbrev pub decreases-down : goal.decreases-down
decreases-down l = l.rest
