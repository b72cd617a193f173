use Rattle.std.proofs.Common.{◌≡◌, map}
use Rattle.std.specs.Cmp.Lexicographic.{pointwise}
use Rattle.std.specs.List.{list_any}
use Rattle.std.specs.Prelude.{false, nat_eq}
use Rattle.lx_rules.specs.views.Conditions.{condition_view}
use Rattle.lx_lex.proofs.translating.has_condition.Given as goal

abbrev pub invariant-loop : goal.invariant-loop
invariant-loop l =
    list_any (λ other. pointwise nat_eq other l.name) (map (λ s. s.name) (map condition_view l.left)) ≡ false
    → list_any (λ other. pointwise nat_eq other l.name) (map (λ s. s.name) (map condition_view l.conditions)) ≡ false
