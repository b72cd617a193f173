use Rattle.lx_scan.proofs.Choosing.{by_answers}
use Rattle.lx_scan.proofs.answering.choice_is_by_answers.Goals as goal

pub returns : goal.returns
returns c = by_answers
