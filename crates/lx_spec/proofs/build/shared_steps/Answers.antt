use Rattle.lx_spec.proofs.Building.{last-shared}
use Rattle.lx_spec.proofs.build.shared_steps.Goals as goal

pub returns-in-Some : goal.returns-in-Some
returns-in-Some c = last-shared _ c.clone.result c.args.rules.now c.in-Some.rule.now c.in-Some.ensures.value c.clone.ensures.cases
