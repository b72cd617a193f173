use Rattle.std.proofs.Common.{◌≡◌, map, take}
use Rattle.lx_rules.specs.views.Rules.{definition_view, rule_view}
use Rattle.lx_auto.specs.Counts.{count_of_rules}
use Rattle.lx_auto.specs.PositionSets.{numbered}
use Rattle.lx_auto.specs.RuleParts.{ArePartsOf}
use Rattle.lx_auto.specs.Simplified.{simplified_pattern}
use Rattle.lx_auto.proofs.rules.rule_unfolding.unfold_each.Given as goal

abbrev pub invariant-loop-i : goal.invariant-loop-i
invariant-loop-i l = record {
  parts : ArePartsOf l.parts.items (numbered (simplified_pattern (map definition_view l.names.definitions.now)) 0 (map rule_view (take l.i l.rules))) l.total;
  total : l.total ≡ count_of_rules (map definition_view l.names.definitions.now) (map rule_view (take l.i l.rules));
}
