use Rattle.std.proofs.Common.{arith}
use Rattle.lx_c.proofs.Texts.{text_before, text_next}
use Rattle.lx_c.proofs.loops.push_mark_line.Goals as goal

pub loop-byte-preserved : goal.loop-byte-preserved
loop-byte-preserved c =
    text_next _ _ _ _ _ c.loop-byte.invariant (rw (c.four_marks-in-loop-byte.ensures.marks, c.four_marks.ensures.marks) at c.in_ok-push_number_then.ensures)

pub returns : goal.returns
returns c = text_before c.push.result _ _ _ _ _ 256 _ c.loop-byte.invariant (omega arith) c.push.ensures
