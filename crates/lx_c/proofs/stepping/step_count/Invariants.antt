use Rattle.std.proofs.Common.{◌≡◌, ◌≤◌}
use Rattle.lx_automaton.specs.Automata.{class_target}
use Rattle.lx_c.specs.StateCode.{count_below, leads}
use Rattle.lx_c.proofs.stepping.step_count.Given as goal

abbrev pub invariant-loop-class : goal.invariant-loop-class
invariant-loop-class l = record {
  number : l.count ≡ count_below (λ class. leads l.wanted (class_target l.tables.machine l.state class)) l.class;
  small : l.count ≤ l.class;
}
