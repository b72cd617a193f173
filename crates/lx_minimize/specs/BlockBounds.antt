-- Bounds of the states of a block.
use Rattle.std.specs.Prelude.{◌≡◌, ℕ, ◌<◌, ◌≤◌, ◌⊎◌, length, slice_index}
use Rattle.lx_minimize.specs.Partitions.{block, block_count}
use Rattle.lx_minimize.specs.declared.partition.Partition.{Partition}
use Rattle.lx_minimize.specs.declared.bounds.StateRange.{StateRange}
use Rattle.lx_minimize.specs.declared.bounds.Bounds.{Bounds}

-- each of the states below n is between the bounds of its block
pub record AreBoundsBelow (p : Partition) (bounds : Bounds) (n : ℕ) : Type 0 where
  pub low : (s : ℕ) → s < n → slice_index bounds.lows.items (block p s) ≤ s
  pub high : (s : ℕ) → s < n → s ≤ slice_index bounds.highs.items (block p s)

-- so does each state, and each block has its bounds
pub record AreBounds (p : Partition) (bounds : Bounds) : Type 0 where
  pub lows : length bounds.lows.items ≡ block_count p
  pub highs : length bounds.highs.items ≡ block_count p
  pub all : AreBoundsBelow p bounds (length p.block_of.items)

-- some states between these have become a new block
pub record HasNewBlock (old new : Partition) (range : StateRange) : Type 0 where
  pub long : length new.block_of.items ≡ length old.block_of.items
  pub each : (s : ℕ) → s < length old.block_of.items → (block new s ≡ block old s) ⊎ ((block new s ≡ block_count old) × (range.low ≤ s) × (s ≤ range.high))
