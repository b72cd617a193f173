use Rattle.std.proofs.Common.{◌≡◌, ◌≢◌, ◌<◌, ◌≤◌, ℕ, Some, length, slice_index}
use Rattle.std.specs.Prelude.{◌⊎◌}
use Rattle.lx_automaton.specs.Automata.{state_count, target_of}
use Rattle.lx_reach.specs.Reached.{AreMet, IsTarget}
use Rattle.lx_reach.proofs.reached.meet_targets.Given as goal

abbrev pub invariant-loop-byte : goal.invariant-loop-byte
invariant-loop-byte l = record {
  met : AreMet l.met.numbers.items l.met.places.items;
  long : length l.met.places.items ≡ state_count l.tables.machine;
  there : (b t : ℕ) → b < l.byte → target_of l.tables.machine l.fn.state b ≡ Some t → slice_index l.met.places.items t ≢ 0;
  kept : (s : ℕ) → slice_index l.fn.met.places.items s ≢ 0 → slice_index l.met.places.items s ≢ 0;
  only : (t : ℕ) → slice_index l.met.places.items t ≢ 0 → (slice_index l.fn.met.places.items t ≢ 0) ⊎ IsTarget l.tables.machine l.fn.state t;
  more : length l.fn.met.numbers.items ≤ length l.met.numbers.items;
  front : (i : ℕ) → i < length l.fn.met.numbers.items → slice_index l.met.numbers.items i ≡ slice_index l.fn.met.numbers.items i;
}
