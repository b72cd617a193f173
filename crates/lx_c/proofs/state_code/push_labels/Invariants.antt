use Rattle.lx_c.proofs.Texts.{HasTexts}
use Rattle.lx_c.specs.StateCode.{label}
use Rattle.lx_c.proofs.state_code.push_labels.Given as goal

abbrev pub invariant-loop-byte : goal.invariant-loop-byte
invariant-loop-byte l = HasTexts (label l.code.nul_ends l.code.tables.now.machine l.state l.group) l.fn.text.items l.text.items l.byte
