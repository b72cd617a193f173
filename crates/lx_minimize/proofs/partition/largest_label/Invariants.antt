use Rattle.std.proofs.Common.{◌<◌, ◌≤◌, ℕ}
use Rattle.lx_minimize.specs.Completion.{label_of}
use Rattle.lx_minimize.proofs.partition.largest_label.Given as goal

abbrev pub invariant-loop-state : goal.invariant-loop-state
invariant-loop-state l = (s : ℕ) → s < l.state → label_of l.m s ≤ l.largest
