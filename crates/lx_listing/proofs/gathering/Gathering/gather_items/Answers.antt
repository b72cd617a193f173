use Rattle.std.proofs.Common.{◌-◌, ◌≤◌, ◌∙◌, List, arith, length, length-drop, drop, subst, sym, take}
use Rattle.std.proofs.lemmas.Result.{err_from_is_err_and}
use Rattle.lx_scan.specs.declared.item.Item.{Item}
use Rattle.lx_scan.specs.ItemParts.{text_at}
use Rattle.lx_piece.specs.declared.reader.ReaderFault.{ReaderFault}
use Rattle.lx_listing.specs.Gathered.{Gathers}
use Rattle.lx_listing.specs.GatheredLaws.{gathers_on}
use Rattle.lx_line.specs.StyleLaws.{texts_whole}
use Rattle.lx_line.specs.Styles.{Drafted}
use Rattle.lx_listing.specs.Lines.{lines_at}
use Rattle.lx_listing.specs.Parts.{WrotePart}
use Rattle.lx_listing.proofs.Parting.{part_on, rest_all, texts_on}
use Rattle.lx_listing.proofs.gathering.Gathering.gather_items.Goals as goal

pub returns-in_err-done-clause-part : goal.returns-in_err-done-clause-part
returns-in_err-done-clause-part g c =
    let style = g.L.LineStyle.style c.args.draft.now.style in
    let p = err_from_is_err_and c.from_residual.result c.from_residual.ensures.1 in
    let table = c.args.plan.now.table in
    let file = c.args.file in
    let bytes = c.args.bytes.now in
    let base = c.args.base in
    let line = λ (item : Item). style.line_with table file item (text_at bytes base item) in
    let items = c.args.items.now in
    let done = c.loop-done.done in
    rw p.1 (subst (λ (fault : ReaderFault). WrotePart (Gathers g.S.LineSink.wrote) c.args.self.now fault (lines_at style table file bytes base items) c.gather_some.new.self) (sym p.2)
    (part_on (Gathers g.S.LineSink.wrote) (gathers_on g.S.LineSink.wrote g.met.S.LineSink.wrote_on) line items done (length items - done) c.args.self.now c.loop-done.self c.gather_some.new.self _ (texts_whole style (g.met.L.LineStyle.whole c.args.draft.now.style) table file bytes base (take done items)) c.loop-done.invariant.wrote (subst (λ (d : Drafted _). WrotePart (Gathers g.S.LineSink.wrote) c.loop-done.self c.in_err-done.field-0.0 (lines_at (g.L.LineStyle.style d.style) table file bytes base (take (length items - done) (drop done items))) c.gather_some.new.self) c.loop-done.invariant.draft c.in_err-done.ensures.part)))

pub loop-done-preserved : goal.loop-done-preserved
loop-done-preserved g c =
    let style = g.L.LineStyle.style c.args.draft.now.style in
    let table = c.args.plan.now.table in
    let file = c.args.file in
    let bytes = c.args.bytes.now in
    let base = c.args.base in
    let line = λ (item : Item). style.line_with table file item (text_at bytes base item) in
    let items = c.args.items.now in
    let done = c.loop-done.done in
    let count = c.in_ok-done.field-0 in
    record {
      draft = c.gather_some.ensures.draft ∙ c.loop-done.invariant.draft;
      within = (let few = subst (λ (xs : List Item). count ≤ length xs) (rest_all items done) c.in_ok-done.ensures.few in omega (arith, length-drop done items));
      wrote = texts_on (Gathers g.S.LineSink.wrote) (gathers_on g.S.LineSink.wrote g.met.S.LineSink.wrote_on) line items done count c.args.self.now c.loop-done.self c.gather_some.new.self c.loop-done.invariant.wrote
          (subst (λ (xs : List Item). Gathers g.S.LineSink.wrote c.loop-done.self (lines_at style table file bytes base (take count xs)) c.gather_some.new.self) (rest_all items done)
          (subst (λ (d : Drafted _). Gathers g.S.LineSink.wrote c.loop-done.self (lines_at (g.L.LineStyle.style d.style) table file bytes base (take count (take (length items - done) (drop done items)))) c.gather_some.new.self) c.loop-done.invariant.draft c.in_ok-done.ensures.ok));
    }
