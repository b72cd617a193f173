-- The specification of the code, without its place in memory.
use Rattle.std.specs.Prelude.{map}
use Rattle.lx_rules.specs.Plain.{PlainSpec}
use Rattle.lx_rules.specs.views.Conditions.{condition_view}
use Rattle.lx_rules.specs.views.Rules.{rule_view, definition_view, names_view}
use Rattle.lx_rules.specs.declared.spec.Spec.{Spec}

abbrev pub spec_view : Spec → PlainSpec
spec_view s = record {
  conditions = map condition_view s.conditions.items;
  definitions = map definition_view s.definitions.items;
  kinds = names_view s.kinds.items;
  rules = map rule_view s.rules.items;
}
