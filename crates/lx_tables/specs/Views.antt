-- The values read of tables in the code, without their places in memory.
use Rattle.std.specs.Prelude.{List, map}
use Rattle.lx_rules.specs.views.Rules.{names_view}
use Rattle.lx_automaton.specs.EncodedOptions.{machine_of}
use Rattle.lx_tables.specs.Model.{TableRule, Table}
use Rattle.lx_tables.specs.Readers.{Front}
use Rattle.lx_tables.specs.declared.raw.RawFront.{RawFront}
use Rattle.lx_tables.specs.declared.raw.RawTables.{RawTables}
use Rattle.lx_tables.specs.declared.table_rule.TableRule.{TableRule as CodeRule}

abbrev pub rule_view : CodeRule → TableRule
rule_view rule = record { line_end = rule.line_end; steps = rule.steps }

abbrev pub rules_view : List CodeRule → List TableRule
rules_view rules = map rule_view rules

abbrev pub front_view : RawFront → Front
front_view raw = record { starts = raw.starts.items; kinds = names_view raw.kinds.items; rules = rules_view raw.rules.items }

abbrev pub raw_view : RawTables → Table
raw_view raw = record {
  machine = machine_of raw.starts.items raw.classes.items raw.width raw.accepted.items raw.targets.items;
  kinds = names_view raw.kinds.items;
  rules = rules_view raw.rules.items;
}
