use Rattle.std.proofs.Common.{arith}
use Rattle.lx_c.proofs.Texts.{text_end, text_next}
use Rattle.lx_c.specs.StateCode.{state_codes}
use Rattle.lx_c.proofs.state_code.push_state_codes.Goals as goal

pub loop-state-preserved : goal.loop-state-preserved
loop-state-preserved c = text_next _ _ _ _ _ c.loop-state.invariant c.in_ok-push_state.ensures

pub returns : goal.returns
unfolding state_codes
returns c = text_end _ _ _ _ _ c.loop-state.invariant (omega arith)
