use Rattle.std.proofs.Common.{◌+◌, ◌*◌}
use Rattle.lx_tables.specs.Joined.{AreEntries, joined_width}
use Rattle.lx_tables.proofs.joining.add_row.Given as goal

abbrev pub invariant-loop-column : goal.invariant-loop-column
invariant-loop-column l = AreEntries l.tables l.entries.items (l.number * joined_width l.tables + l.column)
