use Rattle.std.proofs.Common.{codes}
use Rattle.std.specs.List.{flat_map}
use Rattle.std.proofs.lemmas.Result.{on_ok_weaker}
use Rattle.lx_report.specs.Bytes.{uri_byte}
use Rattle.lx_report.proofs.Texts.{three}
use Rattle.lx_report.proofs.sarif.push_artifact.Goals as goal

pub returns : goal.returns
returns c =
    on_ok_weaker c.push-2.result
    (λ h. three _ _ _ _ (codes ",\"locations\":[{\"physicalLocation\":{\"artifactLocation\":{\"uri\":\"") (flat_map uri_byte c.args.file.now) (codes "\"}") c.in_ok-push.ensures c.in_ok-push_uri.ensures h)
    c.push-2.ensures
