use Rattle.lx_scan.proofs.OneList.{choice_one}
use Rattle.lx_scan.proofs.ruling.one_choice.Goals as goal

pub returns : goal.returns
returns c = choice_one
