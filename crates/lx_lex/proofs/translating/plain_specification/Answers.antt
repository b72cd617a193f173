use Rattle.std.proofs.Common.{◌≡◌, ◌∙◌, ℕ, List, arith, length, map, refl, sym, subst}
use Rattle.std.proofs.lemmas.List.{length-map}
use Rattle.std.specs.List.{list_all}
use Rattle.std.specs.Prelude.{IsTrue}
use Rattle.std.specs.declared.alloc.Global.{Global}
use Rattle.std.specs.declared.vec.Vec.{Vec}
use Rattle.lx_lex.proofs.Plain.{are-kinds, are-nested, are-ordered, both, rules-in-range}
use Rattle.lx_lex.specs.Checked.{is_sound}
use Rattle.lx_rules.specs.Invariant.{are_definitions, are_distinct, are_kinds, are_ordered, are_start_conditions, begins_initial, is_rule}
use Rattle.lx_rules.specs.Nesting.{are_nested, expressions_of}
use Rattle.lx_rules.specs.declared.condition.Condition.{Condition}
use Rattle.lx_rules.specs.declared.definition.Definition.{Definition}
use Rattle.lx_rules.specs.declared.rule.Rule.{Rule}
use Rattle.lx_rules.specs.views.Conditions.{condition_view}
use Rattle.lx_rules.specs.views.Rules.{definition_view, names_view, rule_view}
use Rattle.lx_lex.proofs.translating.plain_specification.Goals as goal

sound : (c : goal.After-new-2) → IsTrue (list_all (is_sound c.len-count.result) (map rule_view c.args.rules.items))
sound c = subst (λ (rules : List Rule). IsTrue (list_all (is_sound c.len-count.result) (map rule_view rules))) c.deref-3.ensures.value (c.are_sound.ensures c.if-not-are_sound.false)

pub invariant_of-result-clause-nested : goal.invariant_of-result-clause-nested
invariant_of-result-clause-nested c =
    subst (λ (ds : List Definition). IsTrue (are_nested (map definition_view ds) (expressions_of (map rule_view c.args.rules.items)))) (sym c.new.ensures.items)
    (are-nested c.len-count.result (map rule_view c.args.rules.items) (sound c))

pub invariant_of-result-clause-ordered : goal.invariant_of-result-clause-ordered
invariant_of-result-clause-ordered c =
    subst (λ (ds : List Definition). IsTrue (are_ordered (map definition_view ds) (expressions_of (map rule_view c.args.rules.items)))) (sym c.new.ensures.items)
    (are-ordered c.len-count.result (map rule_view c.args.rules.items) (sound c))

pub invariant_of-result-clause-distinct : goal.invariant_of-result-clause-distinct
unfolding are_definitions
invariant_of-result-clause-distinct c =
    subst (λ (ds : List Definition). IsTrue (are_distinct (map (λ d. d.name) (map definition_view ds)))) (sym c.new.ensures.items) refl

pub invariant_of-result-clause-kinds_in_order : goal.invariant_of-result-clause-kinds_in_order
invariant_of-result-clause-kinds_in_order c =
    subst (λ (kinds : List (Vec ℕ Global)). IsTrue (are_kinds (names_view kinds) (map rule_view c.args.rules.items))) (sym c.new-2.ensures.items)
    (are-kinds c.len-count.result (map rule_view c.args.rules.items) (sound c))

pub invariant_of-result-clause-rules_in_range : goal.invariant_of-result-clause-rules_in_range
invariant_of-result-clause-rules_in_range c =
    let same : c.len-count.result ≡ length (map condition_view c.args.conditions.items) = omega (arith, c.len-count.ensures, c.args.conditions.ok.0, length-map c.args.conditions.items condition_view) in
    subst (λ (n : ℕ). IsTrue (list_all (is_rule n (length (names_view c.new-2.result.items))) (map rule_view c.args.rules.items))) same
    (subst (λ (kinds : List (Vec ℕ Global)). IsTrue (list_all (is_rule c.len-count.result (length (names_view kinds))) (map rule_view c.args.rules.items))) (sym c.new-2.ensures.items)
    (rules-in-range c.len-count.result (map rule_view c.args.rules.items) (sound c)))

pub invariant_of-result-clause-initial_first : goal.invariant_of-result-clause-initial_first
unfolding are_start_conditions
invariant_of-result-clause-initial_first c =
    let begins : IsTrue (begins_initial (map condition_view c.args.conditions.items)) =
    subst (λ (cs : List Condition). IsTrue (begins_initial (map condition_view cs))) c.deref.ensures.value (sym c.begins_initial.ensures ∙ c.if-not-begins_initial.false) in
    let distinct : IsTrue (are_distinct (map (λ s. s.name) (map condition_view c.args.conditions.items))) =
    subst (λ (cs : List Condition). IsTrue (are_distinct (map (λ s. s.name) (map condition_view cs)))) c.deref-2.ensures.value (c.are_distinct.ensures c.if-not-are_distinct.false) in
    both (begins_initial (map condition_view c.args.conditions.items)) (are_distinct (map (λ s. s.name) (map condition_view c.args.conditions.items))) begins distinct
