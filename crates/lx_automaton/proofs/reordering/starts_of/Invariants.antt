use Rattle.lx_automaton.specs.Numbered.{AreStarts}
use Rattle.lx_automaton.proofs.reordering.starts_of.Given as goal

abbrev pub invariant-loop-condition : goal.invariant-loop-condition
invariant-loop-condition l = AreStarts l.automaton l.state_order.encoded_options.items l.starts.items l.condition
