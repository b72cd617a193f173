use Rattle.lx_c.proofs.Texts.{then_7}
use Rattle.lx_c.proofs.printing.push_driver.Goals as goal

pub returns : goal.returns
returns c =
    then_7 c.push_either-3.result c.args.text.now.items _ _ _ _ _ _ c.push_either-3.new.text.items _ _ _ _ _ _ _
    c.in_ok-push_filled.ensures (rw c.is_direct.ensures at c.in_ok-push_either.ensures) c.in_ok-push_filled-2.ensures c.in_ok-push_walk.ensures c.in_ok-push_filled-3.ensures
    (rw c.has_include.ensures at c.in_ok-push_either-2.ensures) (rw c.is_direct-2.ensures at c.push_either-3.ensures)
