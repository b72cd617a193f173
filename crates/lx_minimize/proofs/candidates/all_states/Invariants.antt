use Rattle.lx_minimize.specs.Sources.{AreStatesBelow}
use Rattle.lx_minimize.proofs.candidates.all_states.Given as goal

abbrev pub invariant-loop-state : goal.invariant-loop-state
invariant-loop-state l = AreStatesBelow l.state l.states.items
