use Rattle.std.proofs.Common.{◌≡◌, ◌<◌, length}
use Rattle.lx_tables.specs.Readers.{read_digits}
use Rattle.lx_tables.proofs.fields.number.Given as goal

abbrev pub invariant-loop-rest : goal.invariant-loop-rest
invariant-loop-rest l = record {
  small : l.n < 4294967290;
  same : read_digits l.n l.rest ≡ read_digits 0 l.text;
}

abbrev pub decreases-loop-rest : goal.decreases-loop-rest
decreases-loop-rest l = length l.rest
