use Rattle.std.proofs.Common.{◌+◌, ◌*◌}
use Rattle.lx_automaton.specs.Numbered.{AreRows}
use Rattle.lx_automaton.proofs.reordering.add_row.Given as goal

abbrev pub invariant-loop-class : goal.invariant-loop-class
invariant-loop-class l = AreRows l.automaton l.state_order.states.items l.state_order.encoded_options.items l.targets.items (l.place * l.automaton.width + l.class)
