use Rattle.std.proofs.Common.{◌≡◌, ◌++◌, take}
use Rattle.std.specs.List.{flat_map, range_with_len}
use Rattle.lx_rules.specs.views.Rules.{names_view}
use Rattle.lx_automaton.specs.Automata.{state_count}
use Rattle.lx_graph.specs.Graph.{state_text}
use Rattle.lx_graph.proofs.graph.push_states.Given as goal

abbrev pub invariant-loop-state : goal.invariant-loop-state
invariant-loop-state l = l.text.items ≡ l.fn.text.items ++ flat_map (state_text l.tables (names_view l.names)) (take l.state (range_with_len 0 (state_count l.tables.machine)))
