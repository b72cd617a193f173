use Rattle.lx_c.proofs.Texts.{HasTexts}
use Rattle.std.proofs.Common.{◌++◌}
use Rattle.std.specs.Prelude.{codes}
use Rattle.lx_lex.specs.Arrays.{row_text, zero_entries}
use Rattle.lx_lex.proofs.arrays.push_rows.Given as goal

abbrev pub invariant-loop-state : goal.invariant-loop-state
invariant-loop-state l = HasTexts (row_text l.automaton) (l.fn.text.items ++ (zero_entries l.automaton ++ codes "\n")) l.text.items l.state
