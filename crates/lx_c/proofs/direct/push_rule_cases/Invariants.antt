use Rattle.lx_c.proofs.Texts.{HasTexts}
use Rattle.lx_c.specs.DirectCode.{rule_case}
use Rattle.lx_c.proofs.direct.push_rule_cases.Given as goal

abbrev pub invariant-loop-rule : goal.invariant-loop-rule
invariant-loop-rule l = HasTexts (rule_case l.options) l.fn.text.items l.text.items l.rule
