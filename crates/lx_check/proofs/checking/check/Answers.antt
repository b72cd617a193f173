use Rattle.lx_check.proofs.Furthering.{begins}
use Rattle.lx_check.proofs.checking.check.Goals as goal

pub returns-in-Err-clause-first : goal.returns-in-Err-clause-first
returns-in-Err-clause-first c = begins c.args.most c.args.text.now c.in_ok-findings_from-in-Err.field-0.items c.in_ok-findings_from-in-Err.ensures
