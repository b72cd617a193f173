use Rattle.lx_c.proofs.Texts.{HasTexts}
use Rattle.lx_lex.specs.StateCode.{start_code}
use Rattle.lx_lex.proofs.state_code.push_starts.Given as goal

abbrev pub invariant-loop-condition : goal.invariant-loop-condition
invariant-loop-condition l = HasTexts (start_code l.tables.machine) l.fn.text.items l.text.items l.condition
