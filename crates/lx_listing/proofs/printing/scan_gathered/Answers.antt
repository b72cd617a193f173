use Rattle.std.proofs.Common.{ap, ◌∙◌, false}
use Rattle.lx_listing.specs.Gathered.{gathered}
use Rattle.lx_listing.specs.GatheredLaws.{finished_part}
use Rattle.lx_listing.specs.Listings.{listing_of}
use Rattle.lx_listing.proofs.printing.scan_gathered.Goals as goal

pub returns-in-Err-clause-part : goal.returns-in-Err-clause-part
returns-in-Err-clause-part g c =
    finished_part g.S.LineSink.wrote g.met.S.LineSink.wrote_on c.args.sink c.finish-sink.result.0 _ _ _ (listing_of c.args.plan.now) (c.new-2.ensures ∙ ap (λ held. gathered held false c.args.sink) c.in-Ok.ensures) c.scan_to-gathering.ensures.part c.finish-sink.ensures
