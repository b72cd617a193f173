use Rattle.std.proofs.Common.{◌∙◌, ap, subst}
use Rattle.std.specs.Prelude.{OnOk}
use Rattle.lx_listing.specs.Gathered.{Gathered, Gathers, gathered}
use Rattle.lx_listing.proofs.HandedOn.{block_on}
use Rattle.lx_listing.proofs.gathering.Gathering.write_through.Goals as goal

pub returns-clause-ok : goal.returns-clause-ok
returns-clause-ok g c =
    let s = c.self.inside in
    let answer = c.write_lines-answer in
    let failed = c.is_err-self-inside in
    subst (λ (old : Gathered _). OnOk answer.result (Gathers g.S.LineSink.wrote old c.args.block.now (gathered s.held failed.result answer.new.self))) c.self.view_is
    (block_on g.S.LineSink.wrote (gathered s.held s.has_failed s.sink) c.args.block.now failed.result answer.new.self answer.result c.if-self.false (ap (λ (old : Gathered _). old.held) c.self.view_is ∙ c.requires.empty) failed.ensures.value answer.ensures.ok answer.ensures.err)
