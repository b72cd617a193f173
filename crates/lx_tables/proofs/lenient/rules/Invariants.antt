use Rattle.std.proofs.Common.{◌≡◌, ◌-◌}
use Rattle.lx_tables.specs.Views.{rules_view}
use Rattle.lx_tables.specs.Readers.{onto, read_list, read_many, read_rule}
use Rattle.lx_tables.proofs.lenient.rules.Given as goal

abbrev pub invariant-loop : goal.invariant-loop
invariant-loop l = onto (rules_view l.rules.items) (read_many read_rule (l.many - l.counter) l.rest) ≡ read_list 4096 6 read_rule l.text
