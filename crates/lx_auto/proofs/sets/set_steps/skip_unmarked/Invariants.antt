use Rattle.std.proofs.Common.{◌≡◌, ◌≤◌, ◌<◌, ◌-◌, ℕ, false, length}
use Rattle.lx_auto.specs.Marking.{flag}
use Rattle.lx_auto.proofs.sets.set_steps.skip_unmarked.Given as goal

abbrev pub invariant-stretches : goal.invariant-stretches
invariant-stretches l = record {
  later : l.from ≤ l.until;
  within : l.from ≤ length l.marks → l.until ≤ length l.marks;
  bare : (q : ℕ) → l.from ≤ q → q < l.until → flag l.marks q ≡ false;
}

abbrev pub decreases-stretches : goal.decreases-stretches
decreases-stretches l = length l.marks - l.until
