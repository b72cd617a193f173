use Rattle.std.proofs.Common.{true}
use Rattle.lx_c.proofs.StateSteps.{steps_alike}
use Rattle.lx_lex.proofs.laws.code_steps_alike.Goals as goal

pub returns : goal.returns
returns c = λ m h. steps_alike m h true
