use Rattle.lx_c.proofs.Numbers.{are_apart}
use Rattle.lx_c.proofs.laws.kinds_are_apart.Goals as goal

pub returns : goal.returns
returns c = are_apart
