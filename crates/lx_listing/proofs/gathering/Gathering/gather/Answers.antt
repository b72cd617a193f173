use Rattle.std.proofs.Common.{[], subst}
use Rattle.std.specs.Prelude.{OnErr, OnOk}
use Rattle.lx_listing.specs.Gathered.{Gathered, Gathers}
use Rattle.lx_listing.specs.GatheredLaws.{gathers_on}
use Rattle.lx_listing.specs.Printing.{WrotePrefix}
use Rattle.lx_listing.proofs.HandedOn.{then_err, then_ok}
use Rattle.lx_listing.proofs.gathering.Gathering.gather.Goals as goal

pub returns-clause-ok : goal.returns-clause-ok
returns-clause-ok g c =
    let r = c.write_through.result in
    let u = c.write_through.new.self in
    then_ok g.S.LineSink.wrote g.met.S.LineSink.wrote_on c.args.self.now c.pass_on.new.self u c.args.block.now r
    (subst (λ (s : Gathered _). Gathers g.S.LineSink.wrote s [] c.pass_on.new.self) (c.hold.ensures.not c.if-hold.false) c.pass_on.ensures.gathers)
    (subst (λ (t : Gathered _). OnOk r (Gathers g.S.LineSink.wrote t c.args.block.now u)) (c.hold-2.ensures.not c.if-hold-2.false) c.write_through.ensures.ok)

pub returns-clause-err : goal.returns-clause-err
returns-clause-err g c =
    let r = c.write_through.result in
    let u = c.write_through.new.self in
    then_err g.S.LineSink.wrote g.met.S.LineSink.wrote_on c.args.self.now c.pass_on.new.self u c.args.block.now r
    (subst (λ (s : Gathered _). Gathers g.S.LineSink.wrote s [] c.pass_on.new.self) (c.hold.ensures.not c.if-hold.false) c.pass_on.ensures.gathers)
    (subst (λ (t : Gathered _). OnErr r (WrotePrefix (Gathers g.S.LineSink.wrote) t c.args.block.now u)) (c.hold-2.ensures.not c.if-hold-2.false) c.write_through.ensures.err)

pub returns-then-hold-2-clause-ok : goal.returns-then-hold-2-clause-ok
returns-then-hold-2-clause-ok g c =
    gathers_on g.S.LineSink.wrote g.met.S.LineSink.wrote_on c.args.self.now c.pass_on.new.self c.hold-2.new.self [] c.args.block.now
    (subst (λ (s : Gathered _). Gathers g.S.LineSink.wrote s [] c.pass_on.new.self) (c.hold.ensures.not c.if-hold.false) c.pass_on.ensures.gathers)
    (c.hold-2.ensures.held c.if-hold-2.true)
