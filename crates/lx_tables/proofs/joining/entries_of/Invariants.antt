use Rattle.std.proofs.Common.{◌*◌}
use Rattle.lx_tables.specs.Joined.{AreEntries, joined_width}
use Rattle.lx_tables.proofs.joining.entries_of.Given as goal

abbrev pub invariant-loop-number : goal.invariant-loop-number
invariant-loop-number l = AreEntries l.tables l.entries.items (l.number * joined_width l.tables)
