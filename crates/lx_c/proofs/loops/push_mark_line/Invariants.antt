use Rattle.lx_c.proofs.Texts.{HasTexts}
use Rattle.lx_c.specs.StateCode.{mark_byte}
use Rattle.lx_c.specs.Rows.{entry_text}
use Rattle.lx_c.proofs.loops.push_mark_line.Given as goal

abbrev pub invariant-loop-byte : goal.invariant-loop-byte
invariant-loop-byte l = HasTexts (λ b. entry_text (mark_byte l.code.nul_ends l.code.tables.now.machine l.group b)) l.fn.text.items l.text.items l.byte
