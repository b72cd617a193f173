use Rattle.std.proofs.Common.{◌*◌}
use Rattle.lx_automaton.specs.Numbered.{AreRows}
use Rattle.lx_automaton.proofs.reordering.rows_of.Given as goal

abbrev pub invariant-loop-place : goal.invariant-loop-place
invariant-loop-place l = AreRows l.automaton l.state_order.states.items l.state_order.encoded_options.items l.targets.items (l.place * l.automaton.width)
