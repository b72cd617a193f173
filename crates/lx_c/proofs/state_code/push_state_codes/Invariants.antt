use Rattle.lx_c.proofs.Texts.{HasTexts}
use Rattle.lx_c.specs.StateCode.{state_code}
use Rattle.lx_c.proofs.state_code.push_state_codes.Given as goal

abbrev pub invariant-loop-state : goal.invariant-loop-state
invariant-loop-state l = HasTexts (state_code l.code.options.now l.code.nul_ends l.code.tables.now.machine) l.fn.text.items l.text.items l.state
