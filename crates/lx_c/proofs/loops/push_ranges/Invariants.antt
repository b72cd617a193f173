use Rattle.lx_c.proofs.Texts.{HasTexts}
use Rattle.lx_c.specs.StateCode.{range_text}
use Rattle.lx_c.proofs.loops.push_ranges.Given as goal

abbrev pub invariant-loop-byte : goal.invariant-loop-byte
invariant-loop-byte l = HasTexts (range_text l.code.options.now l.code.nul_ends l.code.tables.now.machine l.state l.staying) l.fn.text.items l.text.items l.byte
