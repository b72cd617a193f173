use Rattle.std.proofs.Common.{◌≡◌, ◌++◌, length, take}
use Rattle.std.specs.List.{flat_map, range_with_len}
use Rattle.lx_rules.specs.views.Rules.{names_view}
use Rattle.lx_graph.specs.Graph.{condition_text}
use Rattle.lx_graph.proofs.graph.push_starts.Given as goal

abbrev pub invariant-loop-condition : goal.invariant-loop-condition
invariant-loop-condition l = l.text.items ≡ l.fn.text.items ++ flat_map (condition_text (names_view l.names) l.tables.machine) (take l.condition (range_with_len 0 (length l.tables.machine.starts)))
