use Rattle.std.proofs.Common.{◌≡◌, ◌≤◌, length}
use Rattle.lx_auto.specs.Blocks.{shifted}
use Rattle.lx_auto.proofs.rules.block.Block.read_sequence.Given as goal

abbrev pub invariant-down : goal.invariant-down
invariant-down l = record {
  set : shifted l.marks l.entered l.self.base l.rest l.reads.items ≡ shifted l.marks l.entered l.self.base l.self.count l.fn.reads.items;
  long : length l.reads.items ≡ length l.fn.reads.items;
  within : l.rest ≤ l.self.count;
}

abbrev pub decreases-down : goal.decreases-down
decreases-down l = l.rest
