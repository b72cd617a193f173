use Rattle.std.proofs.Common.{◌≡◌, ◌∙◌, ◌++◌, ◌∷◌, [], List, ℕ, map, drop, take, get_or, length, vec_len, suc, add-one, ap, sym, arith}
use Rattle.std.specs.Prelude.{reverse}
use Rattle.std.proofs.lemmas.List.{map_push}
use Rattle.lx_rules.specs.Plain.{PlainRule}
use Rattle.lx_rules.specs.views.Rules.{rule_view, names_view}
use Rattle.lx_rules.specs.declared.rule.Step.{Step}
use Rattle.lx_rules.specs.declared.rule.Rule.{Rule}
use Rattle.lx_spec.specs.views.Actions.{action_view}
use Rattle.lx_spec.specs.views.Steps.{steps_at_end, with_steps}
use Rattle.lx_spec.specs.views.ResolvedRules.{resolved_view}
use Rattle.lx_spec.specs.views.Sections.{start_condition_view, raw_rule_view}
use Rattle.lx_spec.specs.Outcome as plain
use Rattle.lx_spec.specs.declared.resolved_rule.ResolvedRule.{ResolvedRule}
use Rattle.lx_spec.specs.declared.parsed_sections.RawRule.{RawRule}
use Rattle.lx_spec.proofs.Building.{drop-item, drop-last, take-front, end-push, before-is, reverse-push, rules-more}
use Rattle.lx_spec.proofs.build.rules_of.Goals as goal

pub loop-rule-preserved : goal.loop-rule-preserved
loop-rule-preserved c =
    let m = vec_len c.pop.new.self in
    let S = map start_condition_view c.args.start_conditions.now in
    let K = names_view c.args.kinds.now.kinds.items in
    let all = c.args.resolved.items in
    let rule = c.in-Some.rule in
    let more : vec_len c.loop-rule.resolved ≡ suc m = sym c.in-Some.ensures.cases ∙ add-one m in
    let len : length c.pop.new.self.items ≡ m = omega arith in
    let taken : c.pop.new.self.items ++ rule ∷ [] ≡ take (suc m) all = sym c.in-Some.ensures.items ∙ c.loop-rule.invariant.rest ∙ ap (λ (n : ℕ). take n all) more in
    let here : drop m all ≡ rule ∷ drop (suc m) all = drop-last all c.pop.new.self.items rule m len taken in
    let steps-behind = c.loop-rule.invariant.steps ∙ ap (λ (n : ℕ). plain.steps_of S K (plain.first_own (plain.actions_in (map resolved_view (drop n all))))) more in
    let next = ap (λ (l : List Rule). steps_at_end (map rule_view l)) c.deref.ensures.value ∙ steps-behind in
    let own = c.in_ok-action.ensures ∙ before-is S K (action_view rule.action) (plain.actions_in (map resolved_view (drop (suc m) all))) _ next in
    let pushed : map rule_view c.push.new.self.items ≡ map rule_view c.loop-rule.rules.items ++ _ ∷ [] = ap (map rule_view) c.in_ok-push.ensures.items ∙ map_push rule_view c.loop-rule.rules.items _ in
    record {
      rest = take-front all c.pop.new.self.items rule m len taken;
      within = omega (arith, more, c.loop-rule.invariant.within);
      steps = ap steps_at_end pushed ∙ end-push (map rule_view c.loop-rule.rules.items) _ ∙ ap (λ (r : PlainRule). r.steps) c.rule_of.ensures ∙ own ∙ ap (λ (l : List ResolvedRule). plain.steps_of S K (plain.first_own (plain.actions_in (map resolved_view l)))) (sym here);
      rules = ap (λ (l : List Rule). map rule_view (reverse l)) c.in_ok-push.ensures.items ∙ ap (map rule_view) (reverse-push c.loop-rule.rules.items _)
          ∙ rules-more S K (map raw_rule_view (drop m c.args.raws.now)) (map resolved_view (drop m all)) (raw_rule_view c.index-raws-len.result) (resolved_view rule) (map raw_rule_view (drop (suc m) c.args.raws.now)) (map resolved_view (drop (suc m) all)) _ _
          (ap (map raw_rule_view) (drop-item c.args.raws.now m c.index-raws-len.result (omega (arith, more, c.loop-rule.invariant.within, c.requires.same)) ∙ ap (λ (r : RawRule). r ∷ drop (suc m) c.args.raws.now) (ap (λ (n : ℕ). get_or c.args.raws.now n c.index-raws-len.result) (sym c.len.ensures) ∙ sym c.index-raws-len.is)))
          (ap (map resolved_view) here)
          (c.loop-rule.invariant.rules ∙ ap (λ (n : ℕ). plain.rules_of S K (map raw_rule_view (drop n c.args.raws.now)) (map resolved_view (drop n all))) more)
          (c.rule_of.ensures ∙ ap (λ (r : RawRule). with_steps r.line (resolved_view rule) c.in_ok-action.action) (sym c.index-raws-len.is) ∙ ap (λ (l : List Step). with_steps c.index-raws-len.result.line (resolved_view rule) l) own);
    }
