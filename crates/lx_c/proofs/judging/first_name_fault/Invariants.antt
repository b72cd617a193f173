use Rattle.std.proofs.Common.{◌≡◌, drop}
use Rattle.lx_c.specs.Kinds as kinds
use Rattle.lx_c.proofs.judging.first_name_fault.Given as goal

abbrev pub invariant-loop-number : goal.invariant-loop-number
invariant-loop-number l = kinds.first_name_fault l.options 0 l.tables.kinds ≡ kinds.first_name_fault l.options l.number (drop l.number l.tables.kinds)
