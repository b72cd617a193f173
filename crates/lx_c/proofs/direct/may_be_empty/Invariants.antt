use Rattle.std.proofs.Common.{◌≡◌, false, take}
use Rattle.std.specs.List.{list_any}
use Rattle.lx_c.specs.DirectCode as direct
use Rattle.lx_c.proofs.direct.may_be_empty.Given as goal

abbrev pub invariant-loop-condition : goal.invariant-loop-condition
invariant-loop-condition l = list_any (direct.accepts_at_once l.tables.machine) (take l.condition l.tables.machine.starts) ≡ false
