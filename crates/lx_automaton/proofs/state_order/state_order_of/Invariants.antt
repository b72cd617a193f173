use Rattle.std.proofs.Common.{◌≡◌, ◌-◌, length}
use Rattle.lx_automaton.specs.Automata.{state_count}
use Rattle.lx_automaton.specs.Numbered.{AreMet}
use Rattle.lx_automaton.proofs.state_order.state_order_of.Given as goal

abbrev pub invariant-loop-place : goal.invariant-loop-place
invariant-loop-place l = record {
  met : AreMet l.state_order.states.items l.state_order.encoded_options.items;
  long : length l.state_order.encoded_options.items ≡ state_count l.automaton;
}

abbrev pub decreases-loop-place : goal.decreases-loop-place
decreases-loop-place l = state_count l.automaton - l.place
