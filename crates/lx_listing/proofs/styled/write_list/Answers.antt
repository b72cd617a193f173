use Rattle.std.proofs.Common.{Bool, ◌∙◌, List, ap, refl, sym, subst}
use Rattle.std.proofs.lemmas.Result.{IfErr-weaker, err_from_is_err_and, on_ok_weaker}
use Rattle.lx_scan.specs.declared.item.Item.{Item}
use Rattle.lx_piece.specs.declared.reader.ReaderFault.{ReaderFault}
use Rattle.lx_piece.specs.Pieces.{is_cut_short}
use Rattle.lx_line.specs.Styles.{Drafted}
use Rattle.lx_listing.specs.Lines.{cut_lines_by, lines_by, piece_lines_by}
use Rattle.lx_listing.specs.Parts.{WrotePart}
use Rattle.lx_listing.proofs.Parting.{cut_part, part_more}
use Rattle.lx_listing.proofs.styled.write_list.Goals as goal

pub returns-in_err-write_items-clause-part : goal.returns-in_err-write_items-clause-part
returns-in_err-write_items-clause-part g c =
    let p = err_from_is_err_and c.from_residual.result c.from_residual.ensures.1 in
    let piece = c.args.piece in
    let plan = c.args.plan.now in
    let style = g.L.LineStyle.style c.args.draft.now.style in
    rw p.1 (subst (λ (fault : ReaderFault). WrotePart g.S.LineSink.wrote c.args.sink.now fault (piece_lines_by style plan piece.file piece) c.write_items.new.self) (sym p.2)
    (part_more g.S.LineSink.wrote c.args.sink.now c.write_items.new.self c.in_err-write_items.field-0.0 (lines_by style plan piece.file piece.items) (cut_lines_by style piece.file (is_cut_short piece))
    (subst (λ (items : List Item). WrotePart g.S.LineSink.wrote c.args.sink.now c.in_err-write_items.field-0.0 (lines_by style plan piece.file items) c.write_items.new.self) c.as_slice.ensures c.in_err-write_items.ensures.part)))

pub returns-clause-part : goal.returns-clause-part
returns-clause-part g c =
    let piece = c.args.piece in
    let plan = c.args.plan.now in
    let style = g.L.LineStyle.style c.args.draft.now.style in
    let kept = c.style.ensures ∙ ap (λ (d : Drafted _). d.style) c.in_ok-write_items.ensures.draft in
    let wrote = subst (λ (items : List Item). g.S.LineSink.wrote c.args.sink.now (lines_by style plan piece.file items) c.write_items.new.self) c.as_slice.ensures c.in_ok-write_items.ensures.ok in
    IfErr-weaker c.write_cut.result _ _
    (λ fault part. cut_part g.S.LineSink.wrote g.met.S.LineSink.wrote_on c.args.sink.now c.write_items.new.self c.write_cut.new.sink fault style (g.met.L.LineStyle.whole c.args.draft.now.style) plan plan piece.file piece.items c.is_cut_short-ends_cut.result (is_cut_short piece) refl c.is_cut_short-ends_cut.ensures wrote
    (subst (λ by. WrotePart g.S.LineSink.wrote c.write_items.new.self fault (cut_lines_by (g.L.LineStyle.style by) piece.file c.is_cut_short-ends_cut.result) c.write_cut.new.sink) kept part))
    c.write_cut.ensures.part

pub returns-clause-ok : goal.returns-clause-ok
returns-clause-ok g c =
    let piece = c.args.piece in
    let plan = c.args.plan.now in
    let style = g.L.LineStyle.style c.args.draft.now.style in
    let kept = c.style.ensures ∙ ap (λ (d : Drafted _). d.style) c.in_ok-write_items.ensures.draft in
    let wrote = subst (λ (items : List Item). g.S.LineSink.wrote c.args.sink.now (lines_by style plan piece.file items) c.write_items.new.self) c.as_slice.ensures c.in_ok-write_items.ensures.ok in
    on_ok_weaker c.write_cut.result
    (λ cut. g.met.S.LineSink.wrote_on c.args.sink.now c.write_items.new.self c.write_cut.new.sink (lines_by style plan piece.file piece.items) (cut_lines_by style piece.file (is_cut_short piece)) wrote
    (subst (λ (ends : Bool). g.S.LineSink.wrote c.write_items.new.self (cut_lines_by style piece.file ends) c.write_cut.new.sink) c.is_cut_short-ends_cut.ensures
    (subst (λ by. g.S.LineSink.wrote c.write_items.new.self (cut_lines_by (g.L.LineStyle.style by) piece.file c.is_cut_short-ends_cut.result) c.write_cut.new.sink) kept cut)))
    c.write_cut.ensures.ok
