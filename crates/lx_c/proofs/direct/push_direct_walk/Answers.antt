use Rattle.lx_c.proofs.Texts.{then_4}
use Rattle.lx_c.proofs.direct.push_direct_walk.Goals as goal

pub returns : goal.returns
returns c = then_4 c.push_filled.result c.args.text.now.items _ _ _ c.push_filled.new.text.items _ _ _ _ c.in_ok-push_states.ensures c.in_ok-push_rules.ensures c.in_ok-push_starts.ensures c.push_filled.ensures
