use Rattle.lx_flex.proofs.Advancing.{further_after, later_by}
use Rattle.lx_flex.proofs.c_code.take_block.Goals as goal

pub returns : goal.returns
returns c = further_after _ _ _ (later_by _ _ _ c.advance.ensures.left) c.skip_line.ensures.further
