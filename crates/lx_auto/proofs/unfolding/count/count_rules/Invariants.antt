use Rattle.std.proofs.Common.{◌≡◌, min, map, take}
use Rattle.lx_rules.specs.views.Rules.{definition_view, rule_view}
use Rattle.lx_auto.specs.Counts.{count_of_rules}
use Rattle.lx_auto.proofs.unfolding.count.count_rules.Given as goal

abbrev pub invariant-loop-rule : goal.invariant-loop-rule
invariant-loop-rule l = l.total ≡ min 16385 (count_of_rules (map definition_view l.names.definitions.now) (map rule_view (take l.rule-index l.rules)))
