use Rattle.std.proofs.Common.{◌≡◌, ◌≢◌, ◌<◌, ◌≤◌, ℕ, Bool, length, slice_index}
use Rattle.lx_automaton.specs.Automata.{state_count, start_of}
use Rattle.lx_reach.specs.Reached.{AreMet, IsStart}
use Rattle.lx_reach.proofs.reached.meet_starts.Given as goal

abbrev pub invariant-loop-condition : goal.invariant-loop-condition
invariant-loop-condition l = record {
  met : AreMet l.met.numbers.items l.met.places.items;
  long : length l.met.places.items ≡ state_count l.tables.machine;
  there : (c : ℕ) (begin : Bool) → l.fn.first ≤ c → c < l.condition → slice_index l.met.places.items (start_of l.tables.machine c begin) ≢ 0;
  only : (s : ℕ) → slice_index l.met.places.items s ≢ 0 → IsStart l.tables.machine l.fn.first l.fn.end s;
}
