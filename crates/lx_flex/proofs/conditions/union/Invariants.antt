use Rattle.std.proofs.Common.{◌≡◌}
use Rattle.lx_flex.specs.Activity.{joined}
use Rattle.lx_flex.proofs.conditions.union.Given as goal

abbrev pub invariant-loop-number : goal.invariant-loop-number
invariant-loop-number l = l.numbers.items ≡ joined l.number-counter l.one l.other
