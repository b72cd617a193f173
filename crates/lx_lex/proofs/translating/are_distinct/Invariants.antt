use Rattle.std.proofs.Common.{map}
use Rattle.std.specs.Prelude.{IsTrue}
use Rattle.lx_rules.specs.Invariant.{are_distinct}
use Rattle.lx_rules.specs.views.Conditions.{condition_view}
use Rattle.lx_lex.proofs.translating.are_distinct.Given as goal

abbrev pub invariant-loop : goal.invariant-loop
invariant-loop l = IsTrue (are_distinct (map (λ s. s.name) (map condition_view l.left))) → IsTrue (are_distinct (map (λ s. s.name) (map condition_view l.conditions)))
