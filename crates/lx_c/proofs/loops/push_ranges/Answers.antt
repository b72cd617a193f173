use Rattle.std.proofs.Common.{arith}
use Rattle.lx_c.proofs.Texts.{text_before, text_next, two}
use Rattle.lx_c.proofs.loops.push_ranges.Goals as goal

pub loop-byte-preserved : goal.loop-byte-preserved
loop-byte-preserved c = text_next _ _ _ _ _ c.loop-byte.invariant (two _ _ _ _ _ c.in_ok-push_low_bound.ensures c.in_ok-push_high_bound.ensures)

pub returns : goal.returns
returns c = text_before c.push.result _ _ _ _ _ 256 _ c.loop-byte.invariant (omega arith) c.push.ensures
