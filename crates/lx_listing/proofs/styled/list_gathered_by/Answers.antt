use Rattle.std.proofs.Common.{ap, ◌∙◌, false}
use Rattle.lx_listing.specs.Gathered.{gathered}
use Rattle.lx_listing.specs.GatheredLaws.{finished_part}
use Rattle.lx_listing.specs.Listings.{listing_by}
use Rattle.lx_listing.proofs.styled.list_gathered_by.Goals as goal

pub returns-in-Err-clause-part : goal.returns-in-Err-clause-part
returns-in-Err-clause-part g c =
    finished_part g.S.LineSink.wrote g.met.S.LineSink.wrote_on c.args.sink c.finish-sink.result.0 _ _ _ (listing_by (g.L.LineStyle.style c.args.style) c.args.plan.now) (c.new-gathering.ensures ∙ ap (λ held. gathered held false c.args.sink) c.in-Ok.ensures) c.list_by-gathering.ensures.part c.finish-sink.ensures
