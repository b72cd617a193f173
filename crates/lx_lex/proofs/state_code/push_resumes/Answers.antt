use Rattle.std.proofs.Common.{arith}
use Rattle.lx_c.proofs.Texts.{text_end, text_next}
use Rattle.lx_lex.proofs.state_code.push_resumes.Goals as goal

pub loop-state-preserved : goal.loop-state-preserved
loop-state-preserved c = text_next _ _ _ _ _ c.loop-state.invariant (rw c.from.ensures at c.in_ok-push_goto.ensures)

pub returns : goal.returns
returns c = text_end _ _ _ _ _ c.loop-state.invariant (omega arith)
