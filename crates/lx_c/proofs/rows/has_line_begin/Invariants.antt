use Rattle.std.proofs.Common.{◌≡◌, false, take}
use Rattle.std.specs.List.{list_any}
use Rattle.lx_c.specs.Rows as rows
use Rattle.lx_c.proofs.rows.has_line_begin.Given as goal

abbrev pub invariant-loop-condition : goal.invariant-loop-condition
invariant-loop-condition l = list_any rows.starts_differ (take l.condition l.tables.machine.starts) ≡ false
