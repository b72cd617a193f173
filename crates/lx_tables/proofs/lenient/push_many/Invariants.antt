use Rattle.std.proofs.Common.{◌≡◌, ◌++◌}
use Rattle.std.specs.Prelude.{replicate}
use Rattle.lx_tables.proofs.lenient.push_many.Given as goal

abbrev pub invariant-loop : goal.invariant-loop
invariant-loop l = l.encoded_options.items ≡ l.fn.encoded_options.items ++ replicate l.counter l.encoded_option
