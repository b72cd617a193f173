use Rattle.std.proofs.Common.{◌∙◌, ap, refl, sym, subst}
use Rattle.std.proofs.lemmas.Result.{IfErr-weaker, err_from_is_err_and}
use Rattle.lx_piece.specs.Plans.{is_cut, items_of}
use Rattle.lx_piece.specs.declared.reader.ReaderFault.{ReaderFault}
use Rattle.lx_line.specs.Styles.{Drafted}
use Rattle.lx_listing.specs.Lines.{cut_lines_by, file_lines_by, lines_by}
use Rattle.lx_listing.specs.Parts.{WrotePart}
use Rattle.lx_listing.proofs.Parting.{cut_part, part_more}
use Rattle.lx_listing.proofs.direct.write_file.Goals as goal

pub returns-in_err-write_items_of-clause-part : goal.returns-in_err-write_items_of-clause-part
returns-in_err-write_items_of-clause-part g c =
    let p = err_from_is_err_and c.from_residual.result c.from_residual.ensures.1 in
    let style = g.L.LineStyle.style c.args.draft.now.style in
    let plan = c.args.plan.now in
    let file = c.args.file in
    rw p.1 (subst (λ (fault : ReaderFault). WrotePart g.S.LineSink.wrote c.args.sink.now fault (file_lines_by style plan file) c.write_items_of.new.sink) (sym p.2)
    (part_more g.S.LineSink.wrote c.args.sink.now c.write_items_of.new.sink c.in_err-write_items_of.field-0.0 (lines_by style plan file (items_of plan file)) (cut_lines_by style file (is_cut plan file)) c.in_err-write_items_of.ensures.part))

pub returns-clause-part : goal.returns-clause-part
returns-clause-part g c =
    let style = g.L.LineStyle.style c.args.draft.now.style in
    let plan = c.args.plan.now in
    let file = c.args.file in
    let kept = c.style.ensures ∙ ap (λ (d : Drafted _). d.style) c.in_ok-write_items_of.ensures.draft in
    IfErr-weaker c.write_cut.result _ _
    (λ fault part. cut_part g.S.LineSink.wrote g.met.S.LineSink.wrote_on c.args.sink.now c.write_items_of.new.sink c.write_cut.new.sink fault style (g.met.L.LineStyle.whole c.args.draft.now.style) plan plan file (items_of plan file) c.is_cut.result (is_cut plan file) refl c.is_cut.ensures c.in_ok-write_items_of.ensures.ok (subst (λ by. WrotePart g.S.LineSink.wrote c.write_items_of.new.sink fault (cut_lines_by (g.L.LineStyle.style by) file c.is_cut.result) c.write_cut.new.sink) kept part))
    c.write_cut.ensures.part
