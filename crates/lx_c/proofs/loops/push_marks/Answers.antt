use Rattle.std.proofs.Common.{arith}
use Rattle.lx_c.proofs.Texts.{text_between, text_next}
use Rattle.lx_c.specs.StateCode.{marks_text}
use Rattle.lx_c.proofs.loops.push_marks.Goals as goal

pub loop-group-preserved : goal.loop-group-preserved
loop-group-preserved c = text_next _ _ _ _ _ c.loop-group.invariant c.in_ok-push_mark_line.ensures

pub returns : goal.returns
unfolding marks_text
returns c = text_between c.push.result _ _ _ _ _ _ _ _ c.loop-group.invariant (omega arith) c.push.ensures
