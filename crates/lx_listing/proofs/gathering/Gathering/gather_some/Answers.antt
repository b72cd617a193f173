use Rattle.std.proofs.Common.{ℕ, ◌∙◌, ◌++◌, ap, subst, sym, take}
use Rattle.std.proofs.lemmas.Result.{err_from_is_err_and}
use Rattle.lx_scan.specs.declared.item.Item.{Item}
use Rattle.lx_scan.specs.ItemParts.{text_at}
use Rattle.lx_piece.specs.declared.reader.ReaderFault.{ReaderFault}
use Rattle.lx_listing.specs.Gathered.{Gathers, gathered}
use Rattle.lx_line.specs.Styles.{Drafted}
use Rattle.lx_listing.specs.Lines.{lines_at}
use Rattle.lx_listing.specs.Parts.{WrotePart}
use Rattle.lx_listing.proofs.HandedOn.{none_placed, part_by_style, part_of_item, part_same}
use Rattle.lx_listing.proofs.Parting.{part_first}
use Rattle.lx_listing.proofs.gathering.Gathering.gather_some.Goals as goal

pub returns-in_err-gather_item-clause-part : goal.returns-in_err-gather_item-clause-part
returns-in_err-gather_item-clause-part g c =
    let p = err_from_is_err_and c.from_residual.result c.from_residual.ensures.1 in
    let style = g.L.LineStyle.style c.args.draft.now.style in
    let table = c.args.plan.now.table in
    let file = c.args.file in
    let bytes = c.args.bytes.now in
    let base = c.args.base in
    let line = λ (item : Item). style.line_with table file item (text_at bytes base item) in
    let kept = c.style.ensures ∙ ap (λ (d : Drafted _). d.style) c.place_lines-count.ensures.same in
    let items = c.args.items.now in
    let s = c.self.inside in
    let placed = c.place_lines-count in
    let none = placed.ensures.lines ∙ ap (λ (n : ℕ). s.held ++ lines_at style table file bytes base (take n items)) c.if-count-eq0.true in
    let same = none_placed (gathered s.held s.has_failed s.sink) placed.new.buffer none ∙ c.self.view_is in
    rw p.1 (subst (λ (fault : ReaderFault). WrotePart (Gathers g.S.LineSink.wrote) c.args.self.now fault (lines_at style table file bytes base items) c.gather_item.new.self) (sym p.2)
    (part_same (Gathers g.S.LineSink.wrote) c.args.self.now (gathered placed.new.buffer s.has_failed s.sink) c.gather_item.new.self _ (lines_at style table file bytes base items) same
    (part_first (Gathers g.S.LineSink.wrote) line items _ (gathered placed.new.buffer s.has_failed s.sink) c.gather_item.new.self _ c.requires.some
    (part_of_item (Gathers g.S.LineSink.wrote) line (gathered placed.new.buffer s.has_failed s.sink) c.gather_item.new.self _ _ _ c.index-items-0.is
    (part_by_style (Gathers g.S.LineSink.wrote) g.L.LineStyle.style _ _ table file _ _ (gathered placed.new.buffer s.has_failed s.sink) c.gather_item.new.self _ kept c.in_err-gather_item.ensures.part)))))
