use Rattle.std.proofs.Common.{◌≡◌, ◌++◌, take}
use Rattle.std.specs.List.{flat_map, range_with_len}
use Rattle.lx_graph.specs.Graph.{edge_text}
use Rattle.lx_graph.proofs.edges.push_edges.Given as goal

abbrev pub invariant-loop-class : goal.invariant-loop-class
invariant-loop-class l = l.text.items ≡ l.fn.text.items ++ flat_map (edge_text l.tables.machine l.state) (take l.class (range_with_len 0 (l.tables.machine.width)))
