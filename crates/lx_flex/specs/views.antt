-- The meaning of the code's values.
use Rattle.std.specs.Option.{option_map}
use Rattle.lx_ere.specs.Regex.{regex_of, reading_of}
use Rattle.lx_flex.specs.Imported.{FlexRule, FlexDefinition}
use Rattle.lx_flex.specs.declared.judging.ImportedRule.{ImportedRule}
use Rattle.lx_flex.specs.declared.naming.ImportedDefinition.{ImportedDefinition}

abbrev pub rule_of : ImportedRule → FlexRule
rule_of r = record { conditions = option_map (λ v. v.items) r.conditions; pattern = reading_of r.pattern }

abbrev pub definition_of : ImportedDefinition → FlexDefinition
definition_of d = record { name = d.name.items; tree = regex_of d.tree }
