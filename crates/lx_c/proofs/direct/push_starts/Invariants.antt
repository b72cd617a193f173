use Rattle.lx_c.proofs.Texts.{HasTexts}
use Rattle.lx_c.specs.DirectCode.{start_code}
use Rattle.lx_c.proofs.direct.push_starts.Given as goal

abbrev pub invariant-loop-condition : goal.invariant-loop-condition
invariant-loop-condition l = HasTexts (start_code l.options l.test l.tables.machine) l.fn.text.items l.text.items l.condition
