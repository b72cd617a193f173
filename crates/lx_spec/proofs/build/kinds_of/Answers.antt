use Rattle.std.proofs.Common.{◌≡◌, ◌∙◌, ℕ, map, drop, ap, sym, subst, add-one, arith}
use Rattle.lx_rules.specs.views.Rules.{names_view}
use Rattle.lx_spec.specs.views.ResolvedRules.{resolved_view}
use Rattle.lx_spec.specs.Outcome as plain
use Rattle.lx_spec.proofs.Building.{kinds-next}
use Rattle.lx_spec.proofs.build.kinds_of.Goals as goal

pub loop-i-preserved : goal.loop-i-preserved
loop-i-preserved c = record {
  kinds = subst (λ (n : ℕ). plain.kinds_behind (names_view c.in_ok-kinds.kinds.kinds.items) (plain.statements_in (map resolved_view (drop n c.args.resolved.now))) ≡ plain.kinds_of (map resolved_view c.args.resolved.now)) (sym (add-one c.loop-i.i)) (kinds-next c.args.resolved.now c.loop-i.i c.index-resolved-i.result _ _ _ c.loop-i-test.true (c.in_ok-kinds.ensures.kinds ∙ ap (plain.with_kind (names_view c.loop-i.kinds.kinds.items)) (c.returned_by.ensures ∙ ap plain.returned_by c.own_statements.ensures)) c.loop-i.invariant.kinds);
  few = omega (arith, c.in_ok-kinds.ensures.one, c.loop-i.invariant.few);
}
