use Rattle.std.proofs.Common.{◌++◌}
use Rattle.lx_c.proofs.Texts.{HasTexts}
use Rattle.lx_c.specs.Rows.{start_line, word_array_head}
use Rattle.lx_c.specs.declared.templates.TheConstants.{STARTS}
use Rattle.lx_c.proofs.rows.push_start_array.Given as goal

abbrev pub invariant-loop-condition : goal.invariant-loop-condition
invariant-loop-condition l = HasTexts (start_line l.tables.machine) (l.fn.text.items ++ word_array_head l.options l.tables STARTS.now) l.text.items l.condition
