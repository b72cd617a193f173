use Rattle.lx_c.proofs.Texts.{HasTexts}
use Rattle.lx_lex.specs.Arrays.{start_line}
use Rattle.lx_lex.proofs.arrays.push_starts.Given as goal

abbrev pub invariant-loop-condition : goal.invariant-loop-condition
invariant-loop-condition l = HasTexts (start_line l.automaton) l.fn.text.items l.text.items l.condition
