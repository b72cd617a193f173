use Rattle.lx_c.proofs.Texts.{then_5}
use Rattle.lx_c.proofs.printing.push_scanner.Goals as goal

pub returns : goal.returns
returns c = then_5 c.push_driver.result c.args.text.now.items _ _ _ _ c.push_driver.new.text.items _ _ _ _ _ (rw c.is_direct.ensures at c.in_ok-push_either.ensures) c.in_ok-push_header.ensures c.in_ok-push_actions.ensures c.in_ok-push_arrays.ensures c.push_driver.ensures
