use Rattle.std.proofs.Common.{arith}
use Rattle.lx_c.proofs.Texts.{text_end}
use Rattle.lx_lex.proofs.state_code.push_accept_entries.Goals as goal

pub returns : goal.returns
returns c = text_end _ _ _ _ _ c.loop-state.invariant (omega arith)
