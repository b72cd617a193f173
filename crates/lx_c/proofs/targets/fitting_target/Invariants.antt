use Rattle.std.proofs.Common.{◌≡◌, ◌<◌, IfSome}
use Rattle.lx_automaton.specs.Automata.{state_count}
use Rattle.lx_c.specs.StateCode.{first_fit}
use Rattle.lx_c.proofs.targets.fitting_target.Given as goal

abbrev pub invariant-loop-class : goal.invariant-loop-class
invariant-loop-class l = record {
  target : l.best ≡ first_fit l.tables.machine l.state l.comes_last l.class;
  below : IfSome l.best (λ t. t < state_count l.tables.machine);
}
