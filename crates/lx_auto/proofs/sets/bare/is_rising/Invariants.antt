use Rattle.std.proofs.Common.{◌≤◌, ◌<◌, ◌-◌, ℕ, length}
use Rattle.std.specs.Prelude.{slice_index}
use Rattle.lx_auto.proofs.sets.bare.is_rising.Given as goal

abbrev pub invariant-members : goal.invariant-members
invariant-members l = record {
  some : 1 ≤ l.i;
  rising : (j k : ℕ) → j < k → k < l.i → slice_index l.set j < slice_index l.set k;
}

abbrev pub decreases-members : goal.decreases-members
decreases-members l = length l.set - l.i
