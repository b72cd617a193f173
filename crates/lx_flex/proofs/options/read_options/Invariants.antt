use Rattle.std.proofs.Common.{◌≡◌}
use Rattle.lx_flex.proofs.options.read_options.Given as goal

abbrev pub invariant-loop : goal.invariant-loop
invariant-loop l = l.cursor.text.now ≡ l.fn.cursor.text.now
