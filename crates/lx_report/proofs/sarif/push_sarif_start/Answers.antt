use Rattle.std.proofs.Common.{codes}
use Rattle.std.proofs.lemmas.Result.{on_ok_weaker}
use Rattle.lx_report.specs.Bytes.{shown_string}
use Rattle.lx_report.specs.Sarif.{schema}
use Rattle.lx_report.proofs.Texts.{three}
use Rattle.lx_report.proofs.sarif.push_sarif_start.Goals as goal

pub returns : goal.returns
unfolding schema
returns c =
    on_ok_weaker c.push-2.result
    (λ h. three _ _ _ _ (schema) (shown_string c.args.version.now) (codes "}},\"results\":[") c.in_ok-push.ensures c.in_ok-push_string_of_shown.ensures h)
    c.push-2.ensures
