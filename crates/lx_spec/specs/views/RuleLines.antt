-- The lines of rules of the code, without their places in memory.
use Rattle.lx_spec.specs.RuleLines as line
use Rattle.lx_spec.specs.declared.rule_line.RulePrefix.{RulePrefix}
use Rattle.lx_spec.specs.declared.rule_line.RulePrefix.TheVariants.{Absent, Unclosed, Listed}
use Rattle.lx_spec.specs.declared.rule_line.RuleLine.{RuleLine}
use Rattle.lx_spec.specs.declared.rule_line.RuleLine.TheVariants.{Skipped, OpensGroup, RulesEnd, BeginsRule}

abbrev pub prefix_view : RulePrefix → line.RulePrefix
prefix_view Absent = line.absent
prefix_view Unclosed = line.unclosed
prefix_view (Listed text) = line.listed text.now

abbrev pub rule_line_view : RuleLine → line.RuleLine
rule_line_view Skipped = line.skipped
rule_line_view OpensGroup = line.opens_group
rule_line_view RulesEnd = line.rules_end
rule_line_view (BeginsRule prefix pattern action) = line.begins_rule (prefix_view prefix) pattern.now action.now
