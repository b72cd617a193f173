use Rattle.std.proofs.Common.{Bool, ◌++◌, sym, subst}
use Rattle.std.proofs.lemmas.Result.{err_from_is_err_and}
use Rattle.lx_piece.specs.declared.reader.ReaderFault.{ReaderFault}
use Rattle.lx_piece.specs.Pieces.{is_cut_short}
use Rattle.lx_piece.specs.Plans.{Planned}
use Rattle.lx_line.specs.StyleLaws.{plain_whole}
use Rattle.lx_line.specs.Styles.{plain}
use Rattle.lx_listing.specs.Lines.{cut_lines, lines_of}
use Rattle.lx_listing.specs.Parts.{WrotePart}
use Rattle.lx_listing.specs.Printing.{shown_lines}
use Rattle.lx_listing.proofs.Parting.{cut_part, lines_part}
use Rattle.lx_listing.proofs.printer.write_piece.Goals as goal

pub returns-in_err-block-clause-part : goal.returns-in_err-block-clause-part
returns-in_err-block-clause-part g c =
    let p = err_from_is_err_and c.from_residual.result c.from_residual.ensures.1 in
    let piece = c.args.piece in
    let cut = cut_lines piece.file (is_cut_short piece) in
    rw p.1 (subst (λ (fault : ReaderFault). WrotePart g.S.LineSink.wrote c.args.sink.now fault (shown_lines piece) c.write_shown.new.sink) (sym p.2)
    (lines_part g.S.LineSink.wrote c.args.sink.now c.write_shown.new.sink _ plain piece.items.plan c.args.plan.now piece.file piece.items.items cut c.requires.plan c.in_err-block.ensures.part))

pub returns-in_err-write_cut-clause-part : goal.returns-in_err-write_cut-clause-part
returns-in_err-write_cut-clause-part g c =
    let p = err_from_is_err_and c.from_residual-in_err-write_cut.result c.from_residual-in_err-write_cut.ensures.1 in
    let piece = c.args.piece in
    rw p.1 (subst (λ (fault : ReaderFault). WrotePart g.S.LineSink.wrote c.args.sink.now fault (shown_lines piece) c.write_cut.new.sink) (sym p.2)
    (cut_part g.S.LineSink.wrote g.met.S.LineSink.wrote_on c.args.sink.now c.write_shown.new.sink c.write_cut.new.sink _ plain plain_whole piece.items.plan c.args.plan.now piece.file piece.items.items c.is_cut_short-ends_cut.result (is_cut_short piece) c.requires.plan c.is_cut_short-ends_cut.ensures c.in_ok-block.ensures.ok c.in_err-write_cut.ensures.part))

pub returns-clause-ok : goal.returns-clause-ok
returns-clause-ok g c =
    let piece = c.args.piece in
    let plan = c.args.plan.now in
    let cut = cut_lines piece.file (is_cut_short piece) in
    let s = c.args.sink.now in
    let t = c.write_shown.new.sink in
    let u = c.write_cut.new.sink in
    subst (λ (plan : Planned). g.S.LineSink.wrote s (lines_of plan piece.file piece.items.items ++ cut) u) (sym c.requires.plan)
    (g.met.S.LineSink.wrote_on s t u (lines_of plan piece.file piece.items.items) cut c.in_ok-block.ensures.ok
    (subst (λ (ends : Bool). g.S.LineSink.wrote t (cut_lines piece.file ends) u) c.is_cut_short-ends_cut.ensures c.in_ok-write_cut.ensures.ok))
