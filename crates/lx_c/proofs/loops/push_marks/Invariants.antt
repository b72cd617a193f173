use Rattle.lx_c.proofs.Texts.{HasTexts}
use Rattle.lx_c.specs.StateCode.{mark_line}
use Rattle.std.proofs.Common.{◌++◌}
use Rattle.lx_c.specs.Templates.{filled}
use Rattle.lx_c.specs.declared.state_templates.TheConstants.{MARKS}
use Rattle.lx_c.proofs.loops.push_marks.Given as goal

abbrev pub invariant-loop-group : goal.invariant-loop-group
invariant-loop-group l = HasTexts (mark_line l.code.nul_ends l.code.tables.now.machine) (l.fn.text.items ++ filled l.code.options.now.prefix MARKS.now) l.text.items l.group
