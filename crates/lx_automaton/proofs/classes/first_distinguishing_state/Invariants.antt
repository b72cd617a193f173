use Rattle.std.proofs.Common.{◌≡◌, ◌<◌, ℕ}
use Rattle.lx_automaton.specs.Automata.{class_target}
use Rattle.lx_automaton.proofs.classes.first_distinguishing_state.Given as goal

abbrev pub invariant-loop-state : goal.invariant-loop-state
invariant-loop-state l = (t : ℕ) → t < l.state → class_target l.draft t l.class ≡ class_target l.draft t l.other
