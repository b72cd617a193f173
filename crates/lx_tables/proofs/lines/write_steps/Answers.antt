use Rattle.std.proofs.lemmas.Result.{err_from_is_err_and}
use Rattle.lx_rules.specs.declared.rule.Step.TheVariants.{Echo}
use Rattle.lx_tables.specs.Texts.{step_text}
use Rattle.lx_tables.proofs.Written.{prefix_next}
use Rattle.lx_tables.proofs.lines.write_steps.Goals as goal

pub returns-in_err-write_step-clause-err : goal.returns-in_err-write_step-clause-err
returns-in_err-write_step-clause-err g c =
    let p = err_from_is_err_and c.from_residual.result c.from_residual.ensures.1 in
    rw p.1 (prefix_next step_text _ _ _ c.args.steps.now c.loop-step.step-index Echo c.loop-step-test.true c.loop-step.invariant c.in_err-write_step.ensures.err)
