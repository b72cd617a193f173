use Rattle.lx_c.proofs.ActionsRead.{have_the_actions}
use Rattle.lx_c.proofs.laws.arrays_have_the_actions.Goals as goal

pub returns : goal.returns
returns c = have_the_actions
