use Rattle.std.proofs.Common.{arith}
use Rattle.lx_c.proofs.Texts.{text_between}
use Rattle.lx_c.proofs.actions.push_kind_entries.Goals as goal

pub returns : goal.returns
returns c = text_between c.push.result _ _ _ _ _ _ _ _ c.loop-place.invariant (omega arith) c.push.ensures
