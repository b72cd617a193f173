use Rattle.std.proofs.Common.{arith}
use Rattle.lx_c.proofs.Texts.{text_end, text_next, three}
use Rattle.lx_c.proofs.direct.push_rule_cases.Goals as goal

pub loop-rule-preserved : goal.loop-rule-preserved
loop-rule-preserved c =
    text_next _ _ _ _ _ c.loop-rule.invariant (three _ _ _ _ _ _ _ c.in_ok-push.ensures (rw (c.from.ensures, c.from-word.ensures) at c.in_ok-push_number.ensures)
    (rw c.from-word.ensures at c.in_ok-push_numbered.ensures))

pub returns : goal.returns
returns c = text_end _ _ _ _ _ c.loop-rule.invariant (omega arith)
