use Rattle.std.proofs.Common.{arith}
use Rattle.lx_c.proofs.Texts.{text_before}
use Rattle.lx_lex.proofs.list_arrays.push_list.Goals as goal

pub returns : goal.returns
returns c = text_before c.push.result _ _ _ _ _ _ _ c.loop-place.invariant (omega arith) c.push.ensures
