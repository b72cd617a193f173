use Rattle.std.proofs.Common.{◌++◌}
use Rattle.lx_c.proofs.Texts.{HasTexts}
use Rattle.lx_c.specs.Actions.{line_end_entry}
use Rattle.lx_tables.specs.Model.{rule_at}
use Rattle.lx_c.specs.Templates.{filled}
use Rattle.lx_c.specs.declared.templates.TheConstants.{LINE_END, LINE_ENDS}
use Rattle.lx_c.proofs.actions.push_line_ends.Given as goal

abbrev pub invariant-loop-rule : goal.invariant-loop-rule
invariant-loop-rule l = HasTexts (λ r. line_end_entry (rule_at l.tables r).line_end) ((l.fn.text.items ++ filled l.options.prefix LINE_END.now) ++ filled l.options.prefix LINE_ENDS.now) l.text.items l.rule
