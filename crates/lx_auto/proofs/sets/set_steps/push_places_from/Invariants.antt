use Rattle.std.proofs.Common.{◌≡◌, ◌≤◌, ◌-◌, ◌++◌, drop, length}
use Rattle.lx_auto.specs.Members.{places_from}
use Rattle.lx_auto.proofs.sets.set_steps.push_places_from.Given as goal

abbrev pub invariant-stretches : goal.invariant-stretches
invariant-stretches l = record {
  so_far : l.places.items ++ places_from l.at (drop l.at l.flags) ≡ l.fn.places.items ++ places_from l.from (drop l.from l.flags);
  within : l.at ≤ length l.flags;
}

abbrev pub decreases-stretches : goal.decreases-stretches
decreases-stretches l = length l.flags - l.at
