use Rattle.std.proofs.Common.{◌++◌}
use Rattle.lx_c.proofs.Texts.{HasTexts}
use Rattle.lx_c.specs.Actions.{action_entry}
use Rattle.lx_tables.specs.Model.{rule_at}
use Rattle.lx_c.specs.Templates.{filled}
use Rattle.lx_c.specs.declared.templates.TheConstants.{ACTIONS}
use Rattle.lx_c.proofs.actions.push_actions_array.Given as goal

abbrev pub invariant-loop-rule : goal.invariant-loop-rule
invariant-loop-rule l = HasTexts (λ r. action_entry l.options l.first l.tables (rule_at l.tables r).steps) (l.fn.text.items ++ filled l.options.prefix ACTIONS.now) l.text.items l.rule
