use Rattle.std.proofs.Common.{◌≡◌}
use Rattle.lx_c.specs.StateCode.{is_entered_by}
use Rattle.lx_c.proofs.stepping.is_entered.Given as goal

abbrev pub invariant-loop-other : goal.invariant-loop-other
invariant-loop-other l = l.is_entered ≡ is_entered_by l.tables.machine l.state l.other
