use Rattle.std.proofs.lemmas.Result.{IfOk-weaker}
use Rattle.lx_auto.specs.Chunks.{binary_expression, IsOutlinedOf}
use Rattle.lx_auto.proofs.Chunked.{outlined_equivalent}
use Rattle.lx_auto.proofs.rules.chunking.outline_growing.Goals as goal

pub returns : goal.returns
returns c = λ e is.
    let d = binary_expression c.args.growing.operator is.one is.other in
    IfOk-weaker c.join_outlined.result (λ o. IsOutlinedOf o d) (λ o. IsOutlinedOf o e) (λ o h. outlined_equivalent o d e h is.equivalent)
    (c.join_outlined.ensures is.one is.other (c.in_ok-first.ensures is.one is.first) is.rest)
