use Rattle.lx_auto.specs.Drafting.{AreStartStates}
use Rattle.lx_auto.proofs.drafting.start_states.Given as goal

abbrev pub invariant-loop-condition : goal.invariant-loop-condition
invariant-loop-condition l = AreStartStates l.starts.items l.condition
