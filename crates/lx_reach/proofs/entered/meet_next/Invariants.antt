use Rattle.std.proofs.Common.{◌≡◌, ◌≢◌, ◌<◌, ◌≤◌, ◌⊎◌, ℕ, true, false, length, slice_index, slice_index_or}
use Rattle.lx_scan.specs.Steps.{condition_after}
use Rattle.lx_tables.specs.Model.{rule_at}
use Rattle.lx_reach.specs.Entered.{IsBehind}
use Rattle.lx_reach.specs.Reached.{AreMet}
use Rattle.lx_reach.proofs.entered.meet_next.Given as goal

abbrev pub invariant-loop-rule : goal.invariant-loop-rule
invariant-loop-rule l = record {
  met : AreMet l.met.numbers.items l.met.places.items;
  long : length l.met.places.items ≡ length l.tables.machine.starts;
  there : (r : ℕ) → r < l.rule → slice_index_or l.flags r false ≡ true → slice_index l.met.places.items (condition_after (rule_at l.tables r).steps l.fn.condition) ≢ 0;
  kept : (c : ℕ) → slice_index l.fn.met.places.items c ≢ 0 → slice_index l.met.places.items c ≢ 0;
  only : (c : ℕ) → slice_index l.met.places.items c ≢ 0 → (slice_index l.fn.met.places.items c ≢ 0) ⊎ IsBehind l.tables l.fn.condition l.flags c;
  more : length l.fn.met.numbers.items ≤ length l.met.numbers.items;
  front : (i : ℕ) → i < length l.fn.met.numbers.items → slice_index l.met.numbers.items i ≡ slice_index l.fn.met.numbers.items i;
}
