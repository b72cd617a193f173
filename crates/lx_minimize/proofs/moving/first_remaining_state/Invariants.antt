use Rattle.std.proofs.Common.{ℕ, ◌<◌, ◌≤◌, ◌-◌, length}
use Rattle.lx_minimize.specs.Partitions.{IsRemaining}
use Rattle.lx_minimize.proofs.moving.first_remaining_state.Given as goal

abbrev pub invariant-loop-state : goal.invariant-loop-state
invariant-loop-state l = record {
  within : l.behind ≤ length l.blocks;
  none : (s : ℕ) → s < l.behind → IsRemaining l.m l.blocks l.inside l.from l.class l.wanted s → ⊥;
}

abbrev pub decreases-loop-state : goal.decreases-loop-state
decreases-loop-state l = length l.blocks - l.behind
