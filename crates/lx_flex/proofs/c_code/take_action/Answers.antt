use Rattle.lx_flex.proofs.Advancing.{further_after, further_by, later_by}
use Rattle.lx_flex.proofs.c_code.take_action.Goals as goal

pub returns : goal.returns
returns c = further_after _ _ _ (later_by _ _ _ c.advance.ensures.left) (further_by 0 _ _ c.advance-2.ensures.left)
