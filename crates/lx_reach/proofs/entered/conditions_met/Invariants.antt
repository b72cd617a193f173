use Rattle.std.proofs.Common.{◌≡◌, ◌≢◌, ◌-◌, ◌<◌, ◌≤◌, ℕ, length, slice_index}
use Rattle.lx_scan.specs.Steps.{condition_after}
use Rattle.lx_tables.specs.Model.{rule_at}
use Rattle.lx_reach.specs.Chosen.{IsChosenIn}
use Rattle.lx_reach.specs.Entered.{IsEntered}
use Rattle.lx_reach.specs.Reached.{AreMet}
use Rattle.lx_reach.proofs.entered.conditions_met.Given as goal

abbrev pub invariant-loop-place : goal.invariant-loop-place
invariant-loop-place l = record {
  met : AreMet l.met.numbers.items l.met.places.items;
  long : length l.met.places.items ≡ length l.tables.machine.starts;
  within : l.place ≤ length l.met.numbers.items;
  start : slice_index l.met.places.items 0 ≢ 0;
  only : (c : ℕ) → slice_index l.met.places.items c ≢ 0 → IsEntered l.tables c;
  closed : (i r : ℕ) → i < l.place → IsChosenIn l.tables (slice_index l.met.numbers.items i) r → slice_index l.met.places.items (condition_after (rule_at l.tables r).steps (slice_index l.met.numbers.items i)) ≢ 0;
}

abbrev pub decreases-loop-place : goal.decreases-loop-place
decreases-loop-place l = length l.tables.machine.starts - l.place
