use Rattle.std.proofs.Common.{◌≤◌, ◌<◌, ◌-◌, ℕ, length}
use Rattle.std.specs.Prelude.{slice_index}
use Rattle.lx_auto.proofs.sets.bare.members_before.Given as goal

abbrev pub invariant-members : goal.invariant-members
invariant-members l = record {
  within : l.before ≤ length l.set;
  before : (j : ℕ) → l.passed ≤ j → j < l.before → slice_index l.set j < l.position;
}

abbrev pub decreases-members : goal.decreases-members
decreases-members l = length l.set - l.before
