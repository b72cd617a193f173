use Rattle.lx_c.proofs.Texts.{HasTexts}
use Rattle.lx_c.specs.Actions.{steps_array}
use Rattle.lx_tables.specs.Model.{rule_at}
use Rattle.lx_c.proofs.actions.push_steps_arrays.Given as goal

abbrev pub invariant-loop-rule : goal.invariant-loop-rule
invariant-loop-rule l = HasTexts (λ r. steps_array l.options l.first l.tables r (rule_at l.tables r).steps) l.fn.text.items l.text.items l.rule
