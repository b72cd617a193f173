use Rattle.std.proofs.Common.{ap, sym, ◌∙◌, get_or}
use Rattle.lx_rules.specs.declared.rule.Step.TheVariants.{Echo}
use Rattle.lx_c.specs.Numbers.{above, returned_number}
use Rattle.lx_c.proofs.Numbers.{above_more}
use Rattle.lx_c.proofs.kinds.number_above_steps.Goals as goal

pub loop-step-preserved : goal.loop-step-preserved
loop-step-preserved c = record {
  number = c.number_above_step-first.ensures.number ∙ (ap (λ n. above n (returned_number (get_or c.args.steps.now c.loop-step.step-index Echo))) c.loop-step.invariant.number ∙ sym (above_more returned_number c.args.number c.args.steps.now c.loop-step.step-index Echo c.loop-step-test.true));
  small = c.number_above_step-first.ensures.small;
}
