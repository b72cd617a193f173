use Rattle.std.proofs.lemmas.Result.{on_ok_weaker}
use Rattle.lx_report.proofs.Telling.{extends_more}
use Rattle.lx_report.proofs.warnings.push_counts.Goals as goal

pub returns : goal.returns
returns c =
    on_ok_weaker c.push_count-6.result
    (λ h. extends_more _ _ _
    (extends_more _ _ _
    (extends_more _ _ _
    (extends_more _ _ _ (extends_more _ _ _ c.in_ok-push_count.ensures.extends c.in_ok-push_count-2.ensures.extends) c.in_ok-push_count-3.ensures.extends)
    c.in_ok-push_count-4.ensures.extends)
    c.in_ok-push_count-5.ensures.extends)
    h)
    c.push_count-6.ensures.extends
