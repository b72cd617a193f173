use Rattle.std.proofs.Common.{arith}
use Rattle.std.proofs.lemmas.List.{length-map}
use Rattle.lx_rules.specs.views.Conditions.{condition_view}
use Rattle.lx_rules.specs.views.Rules.{rule_view, definition_view}
use Rattle.lx_rules.proofs.well_formed.specs_are_well_formed.Goals as goal

pub returns : goal.returns
returns c = λ spec.
    let some = spec.some_conditions in
    let few = spec.few_conditions in
    let few_definitions = spec.few_definitions in
    let few_rules = spec.few_rules in
    record {
      some_conditions = omega (arith, some, length-map spec.conditions.items condition_view);
      few_conditions = omega (arith, few, length-map spec.conditions.items condition_view);
      few_definitions = omega (arith, few_definitions, length-map spec.definitions.items definition_view);
      few_rules = omega (arith, few_rules, length-map spec.rules.items rule_view);
      initial_first = spec.initial_first;
      distinct = spec.distinct;
      nested = spec.nested;
      ordered = spec.ordered;
      kinds_in_order = spec.kinds_in_order;
      rules_in_range = spec.rules_in_range;
    }
