use Rattle.std.proofs.Common.{arith}
use Rattle.lx_c.proofs.Texts.{text_end, text_next}
use Rattle.lx_c.proofs.state_code.push_labels.Goals as goal

pub loop-byte-preserved : goal.loop-byte-preserved
loop-byte-preserved c = text_next _ _ _ _ _ c.loop-byte.invariant c.in_ok-push_label.ensures

pub returns : goal.returns
returns c = text_end _ _ _ 256 _ c.loop-byte.invariant (omega arith)
