use Rattle.std.proofs.Common.{◌≡◌, false, take}
use Rattle.std.specs.List.{list_any}
use Rattle.lx_c.specs.StateCode as states
use Rattle.lx_c.proofs.stepping.is_start.Given as goal

abbrev pub invariant-loop-condition : goal.invariant-loop-condition
invariant-loop-condition l = list_any (states.starts_in l.state) (take l.condition l.tables.machine.starts) ≡ false
