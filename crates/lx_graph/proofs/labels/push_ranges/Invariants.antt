use Rattle.std.proofs.Common.{◌≡◌, ◌++◌, take}
use Rattle.std.specs.List.{flat_map, range_with_len}
use Rattle.lx_graph.specs.Labels.{leads, range_part}
use Rattle.lx_graph.proofs.labels.push_ranges.Given as goal

abbrev pub invariant-loop-byte : goal.invariant-loop-byte
invariant-loop-byte l = l.text.items ≡ l.fn.text.items ++ flat_map (range_part (leads l.tables.machine l.state l.target)) (take l.byte (range_with_len 0 (256)))
