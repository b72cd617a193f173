use Rattle.std.proofs.Common.{◌≡◌, ◌+◌, ◌-◌, ℕ, List, ap, arith, drop, refl, subst, sym, take, ◌∙◌}
use Rattle.lx_scan.specs.ItemParts.{len_of, start_of}
use Rattle.lx_scan.specs.Streams.{IsFedOf, IsKept, Stream, stream_at}
use Rattle.lx_scan.proofs.Streaming.{bytes_text}
use Rattle.lx_scan.proofs.block_scanner.BlockScanner.bytes.Goals as goal

pub returns-clause-texts : goal.returns-clause-texts
returns-clause-texts c item text rest kept fed =
    let fields = c.self.inside in
    let at = fields.progress in
    let table = fields.tables.value in
    let bytes = fields.bytes.items in
    let is : c.args.self.now ≡ stream_at table bytes at = sym c.self.view_is in
    let kept_inside : IsKept (stream_at table bytes at) item = subst (λ (s : Stream). IsKept s item) is kept in
    let fed_inside : IsFedOf (stream_at table bytes at) text rest = subst (λ (s : Stream). IsFedOf s text rest) is fed in
    let from : ℕ = start_of item - (at.cursor.place.offset - at.start) in
    let count : len_of item ≡ from + len_of item - from = omega arith in
    ap (λ (xs : List ℕ). take (len_of item) (drop from xs)) c.deref.ensures.value
    ∙ ap (λ (n : ℕ). take n (drop from bytes)) count
    ∙ bytes_text table bytes at.start at.cursor at.walk.read at.walk.state.0 at.walk.found.last at.has_ended item from (len_of item) c.self.invariant.0.parts kept_inside refl refl text rest fed_inside
