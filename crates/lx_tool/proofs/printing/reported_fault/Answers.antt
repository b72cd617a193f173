use Rattle.std.proofs.Common.{refl}
use Rattle.lx_tool.proofs.printing.reported_fault.Goals as goal

pub returns-in_ok-kind_named-in-Reserved : goal.returns-in_ok-kind_named-in-Reserved
returns-in_ok-kind_named-in-Reserved c = rw c.in-Reserved.is (c.in_ok-kind_named-in-Reserved.field-0, refl, c.in_ok-kind_named-in-Reserved.ensures)

pub returns-in_ok-kind_named-in-Declared : goal.returns-in_ok-kind_named-in-Declared
returns-in_ok-kind_named-in-Declared c = rw c.in-Declared.is (c.in_ok-kind_named-in-Declared.field-0, refl, c.in_ok-kind_named-in-Declared.ensures)
