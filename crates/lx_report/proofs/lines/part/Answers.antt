use Rattle.std.proofs.Common.{ap, ◌∙◌, take, drop}
use Rattle.lx_report.proofs.Parts.{part_is}
use Rattle.lx_report.proofs.lines.part.Goals as goal

pub returns : goal.returns
returns c =
    part_is c.args.line.now c.hidden_bytes.result c.min-front.result 100 c.min.result c.min-front.ensures c.min.ensures
    ∙ ap (λ h. take 100 (drop h c.args.line.now)) c.hidden_bytes.ensures
