use Rattle.std.proofs.Common.{◌≡◌, map}
use Rattle.lx_rules.specs.views.Conditions.{condition_view}
use Rattle.lx_flex.proofs.checking.are_conditions.Given as goal

abbrev pub invariant-loop : goal.invariant-loop
invariant-loop l = map condition_view l.right ≡ map condition_view l.left → map condition_view l.read ≡ map condition_view l.declared
