-- The contents of the sections, in the code, without their places in memory.
use Rattle.std.specs.Prelude.{map}
use Rattle.lx_rules.specs.Plain as spec
use Rattle.lx_spec.specs.Sections as plain
use Rattle.lx_spec.specs.views.RuleLines.{prefix_view}
use Rattle.lx_spec.specs.declared.parsed_sections.StartCondition.{StartCondition}
use Rattle.lx_spec.specs.declared.parsed_sections.RawDefinition.{RawDefinition}
use Rattle.lx_spec.specs.declared.parsed_sections.RawRule.{RawRule}
use Rattle.lx_spec.specs.declared.parsed_sections.ParsedSections.{ParsedSections}

abbrev pub start_condition_view : StartCondition → spec.StartCondition
start_condition_view s = record { name = s.name.now; exclusive = s.exclusive }

abbrev pub raw_definition_view : RawDefinition → plain.RawDefinition
raw_definition_view d = record { name = d.name.now; substitute = d.substitute.now }

abbrev pub raw_rule_view : RawRule → plain.RawRule
raw_rule_view r = record { line = r.line; prefix = prefix_view r.prefix; pattern = r.pattern.now; action = r.action.items }

abbrev pub sections_view : ParsedSections → plain.ParsedSections
sections_view d = record { start_conditions = map start_condition_view d.start_conditions.items; definitions = map raw_definition_view d.definitions.items; rules = map raw_rule_view d.rules.items }
