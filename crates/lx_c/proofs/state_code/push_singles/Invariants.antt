use Rattle.lx_c.proofs.Texts.{HasTexts}
use Rattle.lx_c.specs.StateCode.{other_target, single_code}
use Rattle.lx_c.proofs.state_code.push_singles.Given as goal

abbrev pub invariant-loop-byte : goal.invariant-loop-byte
invariant-loop-byte l = HasTexts (λ b. single_code l.code.options.now l.code.nul_ends l.code.tables.now.machine l.state b (other_target l.code.nul_ends l.code.tables.now.machine l.state l.marked b)) l.fn.text.items l.text.items l.byte
