use Rattle.lx_flex.proofs.Advancing.{further_after, later_by, skips_further}
use Rattle.lx_flex.proofs.rules.read_action.Goals as goal

pub returns-then-is_at : goal.returns-then-is_at
returns-then-is_at c = further_after _ _ _ (later_by _ _ _ c.skip_blanks.ensures.left) c.skip_line.ensures.further

pub returns-then-begins_with : goal.returns-then-begins_with
returns-then-begins_with c = skips_further _ 2 _ _ _ _ c.skip_blanks.ensures.left c.advance.ensures.left c.in_ok-take_block.ensures

pub returns : goal.returns
returns c = further_after _ _ _ (later_by _ _ _ c.skip_blanks.ensures.left) c.in_ok-take_action.ensures
