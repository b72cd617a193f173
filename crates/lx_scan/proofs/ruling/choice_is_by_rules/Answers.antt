use Rattle.lx_scan.proofs.ByFits.{choice_is}
use Rattle.lx_scan.proofs.Choosing.{by_answers}
use Rattle.lx_scan.specs.Answers.{choice_of}
use Rattle.lx_scan.proofs.ruling.choice_is_by_rules.Goals as goal

pub returns : goal.returns
returns c = λ spec table condition begin text of known bytes.
    choice_is spec condition begin text table of known bytes (choice_of table condition begin text) (by_answers table condition begin text)
