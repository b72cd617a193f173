use Rattle.std.proofs.Common.{◌≡◌, ◌≢◌, ◌<◌, ℕ, length, slice_index}
use Rattle.lx_automaton.specs.Automata.{state_count}
use Rattle.lx_reach.specs.Reached.{AreMet, IsTarget}
use Rattle.lx_reach.proofs.reached.targets_of.Given as goal

abbrev pub invariant-loop-place : goal.invariant-loop-place
invariant-loop-place l = record {
  met : AreMet l.met.numbers.items l.met.places.items;
  long : length l.met.places.items ≡ state_count l.tables.machine;
  only : (t : ℕ) → slice_index l.met.places.items t ≢ 0 → (s : ℕ) × (slice_index l.from.places.items s ≢ 0) × IsTarget l.tables.machine s t;
  all : (i t : ℕ) → i < l.place → IsTarget l.tables.machine (slice_index l.from.numbers.items i) t → slice_index l.met.places.items t ≢ 0;
}
