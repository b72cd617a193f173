use Rattle.lx_c.proofs.StateSteps.{steps_alike}
use Rattle.lx_c.proofs.laws.code_steps_alike.Goals as goal

pub returns : goal.returns
returns c = steps_alike
