use Rattle.std.proofs.Common.{arith}
use Rattle.lx_c.proofs.Texts.{text_between}
use Rattle.lx_c.proofs.rows.push_classes.Goals as goal

pub returns : goal.returns
returns c = text_between c.push.result _ _ _ _ _ _ 256 _ c.loop-byte.invariant (omega arith) c.push.ensures
