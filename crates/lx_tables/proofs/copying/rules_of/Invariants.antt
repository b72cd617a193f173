use Rattle.std.proofs.Common.{◌≡◌, map, take}
use Rattle.lx_rules.specs.views.Rules.{rule_view}
use Rattle.lx_tables.specs.Model.{table_rule}
use Rattle.lx_tables.specs.Views.{rules_view}
use Rattle.lx_tables.proofs.copying.rules_of.Given as goal

abbrev pub invariant-loop-rule : goal.invariant-loop-rule
invariant-loop-rule l = rules_view l.rules.items ≡ map table_rule (map rule_view (take l.rule-index l.spec.rules.items))
