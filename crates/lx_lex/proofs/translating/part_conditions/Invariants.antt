use Rattle.std.proofs.Common.{◌≡◌, ◌+◌, length}
use Rattle.lx_lex.proofs.translating.part_conditions.Given as goal

abbrev pub invariant-loop-number : goal.invariant-loop-number
invariant-loop-number l = length l.conditions.items ≡ l.number + 1
