use Rattle.std.specs.Prelude.{IsTrue}
use Rattle.lx_rules.specs.Invariant.{are_rising_below}
use Rattle.lx_lex.proofs.translating.are_rising_below.Given as goal

abbrev pub invariant-loop : goal.invariant-loop
invariant-loop l = IsTrue (are_rising_below l.most l.left) → IsTrue (are_rising_below l.most l.numbers)
