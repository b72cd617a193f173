use Rattle.lx_c.proofs.Texts.{HasTexts}
use Rattle.lx_c.specs.DirectCode.{rule_code}
use Rattle.lx_c.proofs.direct.push_rule_codes.Given as goal

abbrev pub invariant-loop-rule : goal.invariant-loop-rule
invariant-loop-rule l = HasTexts (rule_code l.options) l.fn.text.items l.text.items l.rule
