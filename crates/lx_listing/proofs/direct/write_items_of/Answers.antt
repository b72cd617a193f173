use Rattle.std.proofs.Common.{List, length, sym, ◌∙◌, subst}
use Rattle.std.specs.Prelude.{All}
use Rattle.std.proofs.lemmas.Result.{err_from_is_err_and}
use Rattle.lx_scan.specs.Cursors.{items_left}
use Rattle.lx_scan.specs.ItemParts.{IsItemOf}
use Rattle.lx_scan.specs.declared.item.Item.{Item}
use Rattle.lx_piece.specs.Plans.{bytes_of, items_of, kinds_of}
use Rattle.lx_piece.specs.declared.reader.ReaderFault.{ReaderFault}
use Rattle.lx_line.specs.Styles.{Drafted}
use Rattle.lx_listing.specs.Lines.{lines_by}
use Rattle.lx_listing.specs.Parts.{WrotePart}
use Rattle.lx_listing.proofs.FileLines.{found_are, listed_known, listed_no_more, listed_on, listed_part, not_full}
use Rattle.lx_listing.proofs.direct.write_items_of.Goals as goal

pub returns-in_default-clause-part : goal.returns-in_default-clause-part
returns-in_default-clause-part g c =
    listed_no_more g.S.LineSink.wrote (g.L.LineStyle.style c.args.draft.now.style) (g.met.L.LineStyle.whole c.args.draft.now.style) c.args.plan.now c.args.file c.args.sink.now c.further.sink _ (items_left c.tables-tables.result.now c.bytes-text.result.now c.further.cursor) c.further.invariant.listed

pub write_items-requires-clause-items : goal.write_items-requires-clause-items
write_items-requires-clause-items g c =
    let table = c.tables-tables.result.now in
    let text = c.bytes-text.result.now in
    let found = found_are c.clear.new.self c.next_items.new.items (items_left table text c.further.cursor) (items_left table text c.next_items.new.self) c.in-Ok.ensures.items c.clear.ensures in
    subst (λ (items : List Item). All (IsItemOf (kinds_of c.args.plan.now) (bytes_of c.args.plan.now c.args.file)) items) (sym c.as_slice.ensures)
    (listed_known g.S.LineSink.wrote (g.L.LineStyle.style c.args.draft.now.style) c.args.plan.now c.args.file c.args.sink.now c.further.sink (items_left table text c.further.cursor) c.next_items.new.items (items_left table text c.next_items.new.self) c.requires.plan c.further.invariant.listed found)

pub returns-in_err-write_items-clause-part : goal.returns-in_err-write_items-clause-part
returns-in_err-write_items-clause-part g c =
    let p = err_from_is_err_and c.from_residual.result c.from_residual.ensures.1 in
    let plan = c.args.plan.now in
    let file = c.args.file in
    let table = c.tables-tables.result.now in
    let text = c.bytes-text.result.now in
    let wrote = g.S.LineSink.wrote in
    let style = g.L.LineStyle.style c.args.draft.now.style in
    let found = found_are c.clear.new.self c.next_items.new.items (items_left table text c.further.cursor) (items_left table text c.next_items.new.self) c.in-Ok.ensures.items c.clear.ensures in
    rw p.1 (subst (λ (fault : ReaderFault). WrotePart wrote c.args.sink.now fault (lines_by style plan file (items_of plan file)) c.write_items.new.self) (sym p.2)
    (listed_part wrote g.met.S.LineSink.wrote_on style (g.met.L.LineStyle.whole c.args.draft.now.style) plan file c.args.sink.now c.further.sink c.write_items.new.self _ (items_left table text c.further.cursor) c.next_items.new.items (items_left table text c.next_items.new.self) c.further.invariant.listed found
    (subst (λ (items : List Item). WrotePart wrote c.further.sink c.in_err-write_items.field-0.0 (lines_by style plan file items) c.write_items.new.self) c.as_slice.ensures (subst (λ (d : Drafted _). WrotePart wrote c.further.sink c.in_err-write_items.field-0.0 (lines_by (g.L.LineStyle.style d.style) plan file c.as_slice.result.now) c.write_items.new.self) c.further.invariant.draft c.in_err-write_items.ensures.part))))

pub further-preserved : goal.further-preserved
further-preserved g c =
    let plan = c.args.plan.now in
    let file = c.args.file in
    let table = c.tables-tables.result.now in
    let text = c.bytes-text.result.now in
    let wrote = g.S.LineSink.wrote in
    let style = g.L.LineStyle.style c.args.draft.now.style in
    let found = found_are c.clear.new.self c.next_items.new.items (items_left table text c.further.cursor) (items_left table text c.next_items.new.self) c.in-Ok.ensures.items c.clear.ensures in
    record {
      in_text = c.in-Ok.ensures.in_text;
      memory = c.in-Ok.ensures.memory;
      draft = c.in_ok-write_items.ensures.draft ∙ c.further.invariant.draft;
      listed = listed_on wrote g.met.S.LineSink.wrote_on style plan file c.args.sink.now c.further.sink c.write_items.new.self (items_left table text c.further.cursor) c.next_items.new.items (items_left table text c.next_items.new.self) c.further.invariant.listed found
          (subst (λ (items : List Item). wrote c.further.sink (lines_by style plan file items) c.write_items.new.self) c.as_slice.ensures (subst (λ (d : Drafted _). wrote c.further.sink (lines_by (g.L.LineStyle.style d.style) plan file c.as_slice.result.now) c.write_items.new.self) c.further.invariant.draft c.in_ok-write_items.ensures.ok));
      end = λ part. c.in-Ok.ensures.end (not_full c.len-is_full.result (length c.next_items.new.items) 1024 c.len-is_full.ensures c.in-Ok.ensures.most part);
    }
