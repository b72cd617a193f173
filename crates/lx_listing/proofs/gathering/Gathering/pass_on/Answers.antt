use Rattle.std.proofs.Common.{[], subst}
use Rattle.lx_listing.specs.Gathered.{Gathered, Gathers, gathered}
use Rattle.lx_listing.proofs.HandedOn.{all_on}
use Rattle.lx_listing.proofs.gathering.Gathering.pass_on.Goals as goal

pub returns-clause-gathers : goal.returns-clause-gathers
returns-clause-gathers g c =
    let s = c.self.inside in
    let answer = c.write_lines-answer in
    let failed = c.is_err-self-inside in
    subst (λ (old : Gathered _). Gathers g.S.LineSink.wrote old [] (gathered c.clear.new.self failed.result answer.new.self)) c.self.view_is
    (all_on g.S.LineSink.wrote (gathered s.held s.has_failed s.sink) c.as_slice.result.now c.clear.new.self failed.result answer.new.self answer.result c.if-self.false c.as_slice.ensures c.clear.ensures failed.ensures.value answer.ensures.ok answer.ensures.err)
