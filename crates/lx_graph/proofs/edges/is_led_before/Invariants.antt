use Rattle.std.proofs.Common.{◌≡◌, false, take}
use Rattle.std.specs.List.{list_any, range_with_len}
use Rattle.lx_automaton.specs.Automata.{class_target}
use Rattle.lx_graph.specs.Labels.{is_target}
use Rattle.lx_graph.proofs.edges.is_led_before.Given as goal

abbrev pub invariant-loop-before : goal.invariant-loop-before
invariant-loop-before l = list_any (λ c. is_target l.target (class_target l.tables.machine l.state c)) (take l.before (range_with_len 0 l.class)) ≡ false
