use Rattle.std.proofs.Common.{◌≡◌, take}
use Rattle.std.specs.List.{flat_map}
use Rattle.lx_forms.specs.Choosing.{numbers_of_rule}
use Rattle.lx_forms.proofs.choosing.numbers_of.Given as goal

abbrev pub invariant-loop-rule : goal.invariant-loop-rule
invariant-loop-rule l = l.numbers.items ≡ flat_map numbers_of_rule (take l.rule l.tables.rules)
