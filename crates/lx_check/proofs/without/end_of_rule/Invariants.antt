use Rattle.std.proofs.Common.{◌≡◌, drop, map}
use Rattle.lx_spec.specs.views.Sections.{raw_rule_view}
use Rattle.lx_check.specs.Without.{end_of_rule}
use Rattle.lx_check.proofs.without.end_of_rule.Given as goal

abbrev pub invariant-loop-rule : goal.invariant-loop-rule
invariant-loop-rule l = end_of_rule (map raw_rule_view (drop l.rule-index l.rules)) l.line ≡ end_of_rule (map raw_rule_view l.rules) l.line
