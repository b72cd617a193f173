use Rattle.std.proofs.Common.{◌≡◌, ◌-◌}
use Rattle.lx_tables.specs.Readers.{onto, read_list, read_many, read_start}
use Rattle.lx_tables.proofs.lenient.starts.Given as goal

abbrev pub invariant-loop : goal.invariant-loop
invariant-loop l = onto l.starts.items (read_many read_start (l.many - l.counter) l.rest) ≡ read_list 64 11 read_start l.text
