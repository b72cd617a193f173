use Rattle.std.proofs.Common.{◌≡◌, length}
use Rattle.lx_automaton.specs.Automata.{state_count}
use Rattle.lx_automaton.specs.Numbered.{AreMet}
use Rattle.lx_automaton.proofs.state_order.meet_starts.Given as goal

abbrev pub invariant-loop-condition : goal.invariant-loop-condition
invariant-loop-condition l = record {
  met : AreMet l.state_order.states.items l.state_order.encoded_options.items;
  long : length l.state_order.encoded_options.items ≡ state_count l.automaton;
}
