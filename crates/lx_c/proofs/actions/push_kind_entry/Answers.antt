use Rattle.lx_c.proofs.Texts.{then_4}
use Rattle.lx_c.proofs.actions.push_kind_entry.Goals as goal

pub returns : goal.returns
returns c = then_4 c.push-4.result c.args.text.now.items _ _ _ c.push-4.new.text.items _ _ _ _ c.in_ok-push.ensures c.in_ok-push-2.ensures c.in_ok-push-3.ensures c.push-4.ensures
