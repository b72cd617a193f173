use Rattle.std.proofs.Common.{arith}
use Rattle.lx_c.proofs.Texts.{text_end}
use Rattle.lx_c.proofs.declarations.push_kind_list.Goals as goal

pub returns : goal.returns
returns c = text_end _ _ _ _ _ c.loop-place.invariant (omega arith)
