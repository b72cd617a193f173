use Rattle.std.proofs.Common.{◌≡◌}
use Rattle.lx_listing.specs.Listings.{listing_to_by}
use Rattle.lx_listing.proofs.direct.write_files.Given as goal

abbrev pub invariant-loop-file : goal.invariant-loop-file
invariant-loop-file g l = record {
  style : l.draft.style ≡ l.fn.style;
  plan : l.draft.plan ≡ l.plan;
  wrote : g.S.LineSink.wrote l.fn.sink (listing_to_by (g.L.LineStyle.style l.fn.style) l.plan l.file) l.sink;
}
