use Rattle.std.proofs.lemmas.Result.{on_ok_weaker}
use Rattle.lx_report.proofs.Telling.{extends_more, tells_summary}
use Rattle.lx_report.proofs.warnings.push_summary.Goals as goal

pub returns : goal.returns
returns c =
    on_ok_weaker c.push_all_echoed.result
    (λ h. tells_summary c.args.subject.now.file.now _ _ _ c.in_ok-push_shown_and.ensures.value
    (extends_more _ _ _ (extends_more _ _ _ c.in_ok-push_counts.ensures c.in_ok-push_count.ensures.extends) h))
    c.push_all_echoed.ensures
