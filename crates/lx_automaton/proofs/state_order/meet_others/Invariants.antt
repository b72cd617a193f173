use Rattle.std.proofs.Common.{◌≡◌, ◌≢◌, ◌<◌, ℕ, length, slice_index}
use Rattle.lx_automaton.specs.Automata.{state_count}
use Rattle.lx_automaton.specs.Numbered.{AreMet}
use Rattle.lx_automaton.proofs.state_order.meet_others.Given as goal

abbrev pub invariant-loop-state : goal.invariant-loop-state
invariant-loop-state l = record {
  met : AreMet l.state_order.states.items l.state_order.encoded_options.items;
  long : length l.state_order.encoded_options.items ≡ state_count l.automaton;
  each : (s : ℕ) → s < l.state → slice_index l.state_order.encoded_options.items s ≢ 0;
}
