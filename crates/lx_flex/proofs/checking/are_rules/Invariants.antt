use Rattle.std.proofs.Common.{map}
use Rattle.lx_flex.specs.Imported.{AreRules}
use Rattle.lx_flex.specs.views.{rule_of}
use Rattle.lx_rules.specs.views.Rules.{rule_view}
use Rattle.lx_flex.proofs.checking.are_rules.Given as goal

abbrev pub invariant-loop : goal.invariant-loop
invariant-loop l = AreRules (map rule_of l.unmatched) (map rule_view l.unread) → AreRules (map rule_of l.rules) (map rule_view l.read)
