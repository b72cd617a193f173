use Rattle.std.proofs.Common.{All}
use Rattle.lx_reach.specs.Contexts.{IsReading}
use Rattle.lx_reach.proofs.contexts.meet_all_next.Given as goal

abbrev pub invariant-loop-byte : goal.invariant-loop-byte
invariant-loop-byte l = All (IsReading l.tables.machine l.parts) l.search.readings.items
