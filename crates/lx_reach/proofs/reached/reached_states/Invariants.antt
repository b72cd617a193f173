use Rattle.std.proofs.Common.{◌≡◌, ◌≢◌, ◌-◌, ◌<◌, ◌≤◌, ℕ, length, slice_index}
use Rattle.lx_automaton.specs.Automata.{state_count}
use Rattle.lx_reach.specs.Reached.{AreMet, IsStart, IsTarget, IsReached}
use Rattle.lx_reach.proofs.reached.reached_states.Given as goal

abbrev pub invariant-loop-place : goal.invariant-loop-place
invariant-loop-place l = record {
  met : AreMet l.met.numbers.items l.met.places.items;
  long : length l.met.places.items ≡ state_count l.tables.machine;
  within : l.place ≤ length l.met.numbers.items;
  starts : (s : ℕ) → IsStart l.tables.machine l.fn.first l.fn.end s → slice_index l.met.places.items s ≢ 0;
  only : (s : ℕ) → slice_index l.met.places.items s ≢ 0 → IsReached l.tables.machine l.fn.first l.fn.end 0 s;
  closed : (i t : ℕ) → i < l.place → IsTarget l.tables.machine (slice_index l.met.numbers.items i) t → slice_index l.met.places.items t ≢ 0;
}

abbrev pub decreases-loop-place : goal.decreases-loop-place
decreases-loop-place l = state_count l.tables.machine - l.place
