use Rattle.lx_c.proofs.Texts.{HasTexts}
use Rattle.lx_c.specs.StateCode.{case_code, other_target}
use Rattle.std.proofs.Common.{None}
use Rattle.lx_c.proofs.state_code.push_cases.Given as goal

abbrev pub invariant-loop-byte : goal.invariant-loop-byte
invariant-loop-byte l = HasTexts (λ b. case_code l.code.options.now l.code.nul_ends l.code.tables.now.machine l.state l.main b (other_target l.code.nul_ends l.code.tables.now.machine l.state None b)) l.fn.text.items l.text.items l.byte
