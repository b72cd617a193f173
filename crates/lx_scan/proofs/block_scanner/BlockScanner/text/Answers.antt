use Rattle.std.proofs.Common.{◌≡◌, ◌+◌, ◌-◌, ℕ, List, sym, ap, subst, ◌∙◌}
use Rattle.std.specs.Prelude.{slice_range}
use Rattle.lx_scan.specs.Streams.{IsFedOf, IsKept, Stream, stream_at}
use Rattle.lx_scan.proofs.Streaming.{bytes_text}
use Rattle.lx_scan.proofs.block_scanner.BlockScanner.text.Goals as goal

pub returns : goal.returns
returns c text rest fed =
    let fields = c.self.inside in
    let at = fields.progress in
    let table = fields.tables.value in
    let is : c.args.self.now ≡ stream_at table fields.bytes.items at = sym c.self.view_is in
    let kept : IsKept (stream_at table fields.bytes.items at) c.args.item = subst (λ (s : Stream). IsKept s c.args.item) is c.requires in
    let fed_inside : IsFedOf (stream_at table fields.bytes.items at) text rest = subst (λ (s : Stream). IsFedOf s text rest) is fed in
    let span = c.span_of-start.result in
    let from : ℕ = span.0 - (at.cursor.place.offset - at.start) in
    ap (λ (xs : List ℕ). slice_range xs from (from + span.1)) c.deref.ensures.value
    ∙ bytes_text table fields.bytes.items at.start at.cursor at.walk.read at.walk.state.0 at.walk.found.last at.has_ended c.args.item from span.1 c.self.invariant.0.parts kept
    (ap (λ (n : ℕ). n - (at.cursor.place.offset - at.start)) c.span_of-start.ensures.start) c.span_of-start.ensures.len text rest fed_inside
