-- A bound on the splits that are left; it falls with each turn of the worklist. Each split adds a block and a pending splitter.
use Rattle.std.specs.Prelude.{ℕ, ◌+◌, ◌-◌, ◌*◌, vec_len}
use Rattle.lx_minimize.specs.Completion.{total}
use Rattle.lx_minimize.specs.Partitions.{block_count}
use Rattle.lx_minimize.specs.declared.complete.Complete.{Complete}
use Rattle.lx_minimize.specs.declared.partition.Partition.{Partition}
use Rattle.lx_minimize.specs.declared.worklist.Worklist.{Worklist}

abbrev pub splits_left : Complete → Partition → Worklist → ℕ
splits_left m p worklist = 2 * (total m - block_count p) + vec_len worklist.pending
