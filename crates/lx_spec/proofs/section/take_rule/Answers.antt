use Rattle.std.proofs.Common.{◌∙◌, ◌+◌}
use Rattle.lx_spec.specs.views.Sections.{sections_view}
use Rattle.lx_spec.proofs.Entering.{rule_begun, Goes-same, behind-same}
use Rattle.lx_spec.proofs.section.take_rule.Goals as goal

pub returns-in_ok-begun-in-BeginsRule : goal.returns-in_ok-begun-in-BeginsRule
returns-in_ok-begun-in-BeginsRule c = λ rest. Goes-same _ c.args.number rest c.continue_rule.result _ _
    (behind-same (sections_view c.args.sections) _ _ _ _ (c.args.number + 1) rest c.in_ok-begun-in-BeginsRule.ensures.rule c.in_ok-begun-in-BeginsRule.ensures.count
    ∙ rule_begun (sections_view c.args.sections) c.args.number c.args.line.now _ _ _ rest c.in-BeginsRule.ensures)
    (c.continue_rule.ensures c.args.number rest)
