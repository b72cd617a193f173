use Rattle.std.proofs.Common.{All}
use Rattle.lx_reach.specs.Contexts.{IsReading}
use Rattle.lx_reach.proofs.contexts.is_dangerous.Given as goal

abbrev pub invariant-loop-place : goal.invariant-loop-place
invariant-loop-place l = All (IsReading l.tables.machine l.parts) l.search.readings.items
