use Rattle.std.proofs.Common.{◌≡◌, ◌∙◌, ℕ, List, length, map, ap, sym, subst, arith}
use Rattle.std.specs.Prelude.{IsTrue}
use Rattle.std.proofs.lemmas.List.{length-map}
use Rattle.lx_ere.specs.Regex.{Regex}
use Rattle.lx_rules.specs.Plain.{StartCondition}
use Rattle.lx_rules.specs.Invariant.{are_start_conditions, are_ordered}
use Rattle.lx_rules.specs.Nesting.{are_nested}
use Rattle.lx_rules.specs.views.Conditions.{condition_view}
use Rattle.lx_rules.specs.views.Rules.{rule_view, definition_view, names_view}
use Rattle.lx_spec.specs.Outcome.{AreReached, IsReached, patterns_in, rules_of, kinds_of}
use Rattle.lx_spec.specs.views.ResolvedRules.{resolved_view}
use Rattle.lx_spec.specs.views.Sections.{start_condition_view, raw_definition_view, raw_rule_view, sections_view}
use Rattle.lx_spec.specs.views.Trees.{trees_view}
use Rattle.lx_spec.specs.Verdict.{symbols_of}
use Rattle.lx_spec.specs.declared.resolved_rule.ResolvedRule.{ResolvedRule}
use Rattle.lx_spec.specs.declared.parsed_sections.RawDefinition.{RawDefinition}
use Rattle.lx_spec.specs.declared.parsed_sections.StartCondition.{StartCondition as CodeCondition}
use Rattle.lx_spec.specs.declared.parsed_sections.RawRule.{RawRule}
use Rattle.lx_spec.proofs.Listed.{resolved-length}
use Rattle.lx_spec.proofs.Ranges.{rules-in-range, rules-length, kinds-are, same-expressions, definitions-distinct}
use Rattle.lx_spec.proofs.Nested.{nested}
use Rattle.lx_spec.proofs.OrderedTrees.{ordered}
use Rattle.lx_spec.proofs.Reached.{reached-readable}
use Rattle.lx_spec.proofs.build.spec_of.Goals as goal

pub definitions_of-requires-clause-readable : goal.definitions_of-requires-clause-readable
definitions_of-requires-clause-readable c = λ i r.
    let table = symbols_of (sections_view c.args.sections.now) (trees_view c.args.dictionary.trees.items) in
    reached-readable table (map raw_rule_view c.args.sections.now.rules.items) (map resolved_view c.args.resolved.items) c.requires.clean c.requires.resolves i
    (subst (λ (l : List RawDefinition). IsReached (map raw_definition_view l) table.trees (patterns_in (map resolved_view c.args.resolved.items)) i) c.requires.index
    (subst (λ (l : List ResolvedRule). IsReached (map raw_definition_view c.args.index.now.definitions.now) table.trees (patterns_in (map resolved_view l)) i) c.deref-2.ensures.value r))

pub rules_of-requires-clause-kinds : goal.rules_of-requires-clause-kinds
rules_of-requires-clause-kinds c =
    let same = resolved-length (map start_condition_view c.args.sections.now.start_conditions.items) (map raw_rule_view c.args.sections.now.rules.items) (map resolved_view c.args.resolved.items) c.requires.resolves in
    let few = c.args.sections.now.few_rules in
    omega (arith, same, few, length-map c.args.resolved.items resolved_view, length-map c.args.sections.now.rules.items raw_rule_view, c.in_ok-kinds.ensures.few, c.deref.ensures.len)

pub rules_of-requires-clause-same : goal.rules_of-requires-clause-same
rules_of-requires-clause-same c =
    let same = resolved-length (map start_condition_view c.args.sections.now.start_conditions.items) (map raw_rule_view c.args.sections.now.rules.items) (map resolved_view c.args.resolved.items) c.requires.resolves in
    omega (arith, same, length-map c.args.resolved.items resolved_view, length-map c.args.sections.now.rules.items raw_rule_view, c.deref-4.ensures.len)

conditions-are : (c : goal.In_ok-conditions) → map condition_view c.in_ok-conditions.conditions.items ≡ map start_condition_view c.args.sections.now.start_conditions.items
conditions-are c = c.in_ok-conditions.ensures.conditions ∙ ap (map start_condition_view) c.deref-5.ensures.value

definitions-are : (c : goal.In_ok-conditions) → AreReached (IsReached (map raw_definition_view c.args.sections.now.definitions.items) (trees_view c.args.dictionary.trees.items) (patterns_in (map resolved_view c.args.resolved.items))) 0
    (map raw_definition_view c.args.sections.now.definitions.items) (trees_view c.args.dictionary.trees.items) (map definition_view c.in_ok-definitions.definitions.items)
definitions-are c =
    let trees = trees_view c.args.dictionary.trees.items in
    let ds = map definition_view c.in_ok-definitions.definitions.items in
    subst (λ (l : List RawDefinition). AreReached (IsReached (map raw_definition_view l) trees (patterns_in (map resolved_view c.args.resolved.items))) 0 (map raw_definition_view l) trees ds) c.requires.index
    (subst (λ (l : List ResolvedRule). AreReached (IsReached (map raw_definition_view c.args.index.now.definitions.now) trees (patterns_in (map resolved_view l))) 0 (map raw_definition_view c.args.index.now.definitions.now) trees ds) c.deref-2.ensures.value c.in_ok-definitions.ensures.definitions)

kinds-are-those : (c : goal.In_ok-conditions) → names_view c.in_ok-kinds.kinds.kinds.items ≡ kinds_of (map resolved_view c.args.resolved.items)
kinds-are-those c = c.in_ok-kinds.ensures.kinds ∙ ap (λ (l : List ResolvedRule). kinds_of (map resolved_view l)) c.deref.ensures.value

rules-are : (c : goal.In_ok-conditions) → map rule_view c.in_ok-rules.rules.items
    ≡ rules_of (map start_condition_view c.args.sections.now.start_conditions.items) (kinds_of (map resolved_view c.args.resolved.items)) (map raw_rule_view c.args.sections.now.rules.items) (map resolved_view c.args.resolved.items)
rules-are c =
    let start_conditions = map start_condition_view c.args.sections.now.start_conditions.items in
    let resolved = map resolved_view c.args.resolved.items in
    c.in_ok-rules.ensures ∙ ap (λ (l : List CodeCondition). rules_of (map start_condition_view l) (names_view c.in_ok-kinds.kinds.kinds.items) (map raw_rule_view c.deref-4.result.now) resolved) c.deref-3.ensures.value
    ∙ ap (λ (l : List RawRule). rules_of start_conditions (names_view c.in_ok-kinds.kinds.kinds.items) (map raw_rule_view l) resolved) c.deref-4.ensures.value
    ∙ ap (λ (k : List (List ℕ)). rules_of start_conditions k (map raw_rule_view c.args.sections.now.rules.items) resolved) (kinds-are-those c)

pub invariant_of-result : goal.invariant_of-result
invariant_of-result c =
    let sections = sections_view c.args.sections.now in
    let table = symbols_of sections (trees_view c.args.dictionary.trees.items) in
    let resolved = map resolved_view c.args.resolved.items in
    let same = resolved-length sections.start_conditions sections.rules resolved c.requires.resolves in
    let some = c.args.sections.now.some_start_conditions in
    let few = c.args.sections.now.few_start_conditions in
    let few-names = c.args.sections.now.few_definitions in
    let few-rules = c.args.sections.now.few_rules in
    let definitions = map definition_view c.in_ok-definitions.definitions.items in
    let count : length c.in_ok-conditions.conditions.items ≡ length sections.start_conditions = sym (length-map c.in_ok-conditions.conditions.items condition_view) ∙ ap length (conditions-are c) in
    let start_conditions-count : length sections.start_conditions ≡ length c.args.sections.now.start_conditions.items = length-map c.args.sections.now.start_conditions.items start_condition_view in
    let rules-count : length c.in_ok-rules.rules.items ≡ length sections.rules =
    sym (length-map c.in_ok-rules.rules.items rule_view) ∙ ap length (rules-are c) ∙ rules-length sections.start_conditions (kinds_of resolved) sections.rules resolved c.requires.resolves in
    let expressions = sym (same-expressions sections.start_conditions (kinds_of resolved) sections.rules resolved (map rule_view c.in_ok-rules.rules.items) c.requires.resolves (rules-are c)) in
    let raws-count : length sections.rules ≡ length c.args.sections.now.rules.items = length-map c.args.sections.now.rules.items raw_rule_view in
    record {
      some_conditions = omega (arith, count, start_conditions-count, some);
      few_conditions = omega (arith, count, start_conditions-count, few);
      initial_first = subst (λ (l : List StartCondition). IsTrue (are_start_conditions l)) (sym (conditions-are c)) c.requires.sections.start_conditions;
      distinct = definitions-distinct (IsReached table.definitions table.trees (patterns_in resolved)) 0 table.definitions table.trees definitions (definitions-are c) c.requires.sections.definitions;
      nested = subst (λ (l : List Regex). IsTrue (are_nested definitions l)) expressions (nested table sections.rules resolved definitions c.requires.clean c.requires.resolves (definitions-are c));
      ordered = subst (λ (l : List Regex). IsTrue (are_ordered definitions l)) expressions
          (ordered c.bounds_are_ordered.ensures.patterns c.bounds_are_ordered.ensures.substitutes (IsReached table.definitions table.trees (patterns_in resolved)) sections.start_conditions table.definitions table.trees definitions sections.rules resolved c.requires.dictionary.trees (definitions-are c) c.requires.resolves);
      kinds_in_order = kinds-are sections.start_conditions sections.rules c.args.resolved.items (names_view c.in_ok-kinds.kinds.kinds.items) (map rule_view c.in_ok-rules.rules.items) (sym same) (kinds-are-those c) (rules-are c);
      few_definitions = omega (arith, c.in_ok-definitions.ensures.few, ap length c.requires.index, few-names);
      few_rules = omega (arith, rules-count, raws-count, few-rules);
      rules_in_range = rules-in-range sections.start_conditions c.args.sections.now.rules.items c.args.resolved.items (map condition_view c.in_ok-conditions.conditions.items) (names_view c.in_ok-kinds.kinds.kinds.items) (map rule_view c.in_ok-rules.rules.items) (conditions-are c) (kinds-are-those c) (omega (arith, start_conditions-count, some)) c.requires.resolves (rules-are c);
    }

pub returns : goal.returns
returns c = record { conditions = conditions-are c.before.before; definitions = definitions-are c.before.before; kinds = kinds-are-those c.before.before; rules = rules-are c.before.before }
