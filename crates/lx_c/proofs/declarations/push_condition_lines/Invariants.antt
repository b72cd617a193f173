use Rattle.lx_c.proofs.Texts.{HasTexts}
use Rattle.lx_c.specs.Declarations.{condition_line}
use Rattle.lx_c.proofs.declarations.push_condition_lines.Given as goal

abbrev pub invariant-loop-condition : goal.invariant-loop-condition
invariant-loop-condition l = HasTexts (condition_line l.options) l.fn.text.items l.text.items l.condition
