use Rattle.std.proofs.Common.{◌++◌}
use Rattle.std.specs.Prelude.{codes}
use Rattle.lx_c.proofs.Texts.{HasTexts}
use Rattle.lx_lex.specs.Lists.{list_at, list_entries}
use Rattle.lx_lex.proofs.list_arrays.push_rules.Given as goal

abbrev pub invariant-loop-number : goal.invariant-loop-number
invariant-loop-number l = HasTexts (λ k. list_entries (list_at l.all k)) (l.fn.text.items ++ codes "0,\n") l.text.items l.number
