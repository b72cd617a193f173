use Rattle.std.proofs.Common.{◌≡◌, length}
use Rattle.lx_minimize.specs.Partitions.{block_count}
use Rattle.lx_minimize.specs.BlockBounds.{AreBoundsBelow}
use Rattle.lx_minimize.proofs.bounds.bounds_of.Given as goal

abbrev pub invariant-loop-state : goal.invariant-loop-state
invariant-loop-state l = record {
  lows : length l.bounds.lows.items ≡ block_count l.p;
  highs : length l.bounds.highs.items ≡ block_count l.p;
  below : AreBoundsBelow l.p l.bounds l.state;
}
