use Rattle.lx_report.proofs.Telling.{tells_counted}
use Rattle.lx_report.proofs.warnings.push_accepted.Goals as goal

pub returns : goal.returns
returns c =
    tells_counted c.args.subject.now.file.now c.args.subject.now.quiet c.args.subject.now.asked c.in_ok-count.count _ _ _ c.if-subject.false
    c.in_ok-count.ensures.none c.in_ok-count.ensures.first c.in_ok-push_summary.ensures
