use Rattle.std.proofs.Common.{ℕ, List, subst}
use Rattle.std.proofs.lemmas.List.Elements.{All-weaker}
use Rattle.lx_scan.specs.ItemParts.{LiesAt}
use Rattle.lx_scan.specs.Streams.{IsKept}
use Rattle.lx_piece.specs.Plans.{bytes_of}
use Rattle.lx_listing.specs.Gathered.{Gathers}
use Rattle.lx_listing.proofs.Streaming.{lines_kept, ok_then}
use Rattle.lx_listing.proofs.stream.write_kept.Goals as goal

pub gather_items-requires-clause-texts : goal.gather_items-requires-clause-texts
gather_items-requires-clause-texts g c =
    let kept = c.bytes-base in
    All-weaker (IsKept c.args.scanner.now) (LiesAt kept.result.0.now kept.result.1) kept.ensures.within c.args.items.now c.requires.kept

pub returns-clause-lines : goal.returns-clause-lines
returns-clause-lines g c =
    let kept = c.bytes-base in
    let style = c.args.draft.now.style in
    ok_then c.gather_items.result c.gather_items.ensures.ok (λ wrote whole rest e fed.
    subst (λ (bytes : List ℕ). Gathers g.S.LineSink.wrote c.args.sink.now bytes c.gather_items.new.self)
    (lines_kept (g.L.LineStyle.style style) (g.met.L.LineStyle.by_text style) c.args.plan.now.table c.args.file kept.result.0.now kept.result.1 whole (IsKept c.args.scanner.now)
    (λ item is. kept.ensures.texts item (bytes_of whole c.args.file) rest is fed) e c.args.items.now c.requires.kept) wrote)
