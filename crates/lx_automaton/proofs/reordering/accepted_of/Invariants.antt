use Rattle.lx_automaton.specs.Numbered.{AreAccepted}
use Rattle.lx_automaton.proofs.reordering.accepted_of.Given as goal

abbrev pub invariant-loop-place : goal.invariant-loop-place
invariant-loop-place l = AreAccepted l.automaton l.rules l.state_order.states.items l.accepted.items l.place
