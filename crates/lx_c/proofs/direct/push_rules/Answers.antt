use Rattle.lx_c.proofs.Texts.{then_5}
use Rattle.lx_c.proofs.direct.push_rules.Goals as goal

pub returns : goal.returns
returns c = then_5 c.push_filled-3.result c.args.text.now.items _ _ _ _ c.push_filled-3.new.text.items _ _ _ _ _ c.in_ok-push_filled.ensures c.in_ok-push_rule_cases.ensures c.in_ok-push_filled-2.ensures c.in_ok-push_rule_codes.ensures c.push_filled-3.ensures
