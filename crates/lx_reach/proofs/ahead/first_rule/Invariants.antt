use Rattle.std.proofs.Common.{◌≡◌, ◌-◌, ◌≤◌, length}
use Rattle.lx_automaton.specs.Automata.{state_count}
use Rattle.lx_reach.specs.Reached.{AreMet}
use Rattle.lx_reach.proofs.ahead.first_rule.Given as goal

abbrev pub invariant-loop-place : goal.invariant-loop-place
invariant-loop-place l = record {
  met : AreMet l.met.numbers.items l.met.places.items;
  long : length l.met.places.items ≡ state_count l.tables.machine;
  within : l.place ≤ length l.met.numbers.items;
}

abbrev pub decreases-loop-place : goal.decreases-loop-place
decreases-loop-place l = state_count l.tables.machine - l.place
