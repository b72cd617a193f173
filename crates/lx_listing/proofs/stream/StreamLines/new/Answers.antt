use Rattle.std.proofs.Common.{◌∙◌, ap}
use Rattle.lx_scan.specs.Streams.{Stream, first_stream}
use Rattle.lx_listing.proofs.Streaming.{scanning_begins}
use Rattle.lx_listing.proofs.stream.StreamLines.new.Goals as goal

pub invariant_of-result : goal.invariant_of-result
invariant_of-result g c =
    let fresh = c.new-3.ensures ∙ ap first_stream c.tables.ensures in
    (scanning_begins c.args.plan.now.table c.new-3.result fresh, ap (λ (s : Stream). s.has_ended) fresh, c.new-2.ensures.plan)
