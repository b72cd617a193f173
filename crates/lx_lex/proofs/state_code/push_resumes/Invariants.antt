use Rattle.lx_c.proofs.Texts.{HasTexts}
use Rattle.lx_lex.specs.StateCode.{goto_code}
use Rattle.lx_lex.proofs.state_code.push_resumes.Given as goal

abbrev pub invariant-loop-state : goal.invariant-loop-state
invariant-loop-state l = HasTexts (λ s. goto_code s s) l.fn.text.items l.text.items l.state
