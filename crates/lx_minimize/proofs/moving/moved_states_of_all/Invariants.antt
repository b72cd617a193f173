use Rattle.std.proofs.Common.{◌≤◌, ◌-◌, length}
use Rattle.lx_minimize.specs.Partitions.{AreMovedStates}
use Rattle.lx_minimize.proofs.moving.moved_states_of_all.Given as goal

abbrev pub invariant-loop-state : goal.invariant-loop-state
invariant-loop-state l = record {
  within : l.behind ≤ length l.blocks;
  moved : AreMovedStates l.m l.blocks l.inside l.from l.class l.wanted l.behind l.moved_states.items;
}

abbrev pub decreases-loop-state : goal.decreases-loop-state
decreases-loop-state l = length l.blocks - l.behind
