use Rattle.std.proofs.Common.{◌≡◌, ◌-◌}
use Rattle.lx_rules.specs.views.Rules.{names_view}
use Rattle.lx_tables.specs.Readers.{onto, read_list, read_many, read_kind}
use Rattle.lx_tables.proofs.lenient.kinds.Given as goal

abbrev pub invariant-loop : goal.invariant-loop
invariant-loop l = onto (names_view l.kinds.items) (read_many read_kind (l.many - l.counter) l.rest) ≡ read_list 4096 6 read_kind l.text
