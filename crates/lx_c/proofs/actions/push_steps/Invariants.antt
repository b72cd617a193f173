use Rattle.std.proofs.Common.{◌++◌}
use Rattle.lx_c.proofs.Texts.{HasTexts}
use Rattle.lx_c.specs.Actions.{steps_entry}
use Rattle.lx_tables.specs.Model.{rule_at}
use Rattle.lx_c.specs.Templates.{filled}
use Rattle.lx_c.specs.declared.templates.TheConstants.{STEPS}
use Rattle.lx_c.proofs.actions.push_steps.Given as goal

abbrev pub invariant-loop-rule : goal.invariant-loop-rule
invariant-loop-rule l = HasTexts (λ r. steps_entry l.options r (rule_at l.tables r).steps) (l.fn.text.items ++ filled l.options.prefix STEPS.now) l.text.items l.rule
