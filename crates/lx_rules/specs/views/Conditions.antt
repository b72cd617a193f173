-- The conditions of a specification, without their places in memory.
use Rattle.lx_rules.specs.Plain.{StartCondition}
use Rattle.lx_rules.specs.declared.condition.Condition.{Condition}

abbrev pub condition_view : Condition → StartCondition
condition_view c = record { name = c.name.items; exclusive = c.exclusive }
