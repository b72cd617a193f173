use Rattle.lx_report.proofs.Telling.{begins, first_is_asked}
use Rattle.lx_report.proofs.warnings.push_warnings.Goals as goal

pub returns-clause-first : goal.returns-clause-first
returns-clause-first c = λ some.
    begins c.args.subject.now.file.now c.args.subject.now.asked _ _ _ _
    (first_is_asked c.args.subject.now.asked c.in_ok-warnings.warnings.told.items _ _ _ c.deref.ensures.value c.in-Some.ensures.cases.0 c.in_ok-warnings.ensures.asked)
    c.in_ok-push_warning.ensures.tells c.in_ok-push_all.ensures
