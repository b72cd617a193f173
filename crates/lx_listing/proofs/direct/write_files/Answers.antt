use Rattle.std.proofs.Common.{◌∙◌, ap, arith, subst}
use Rattle.std.proofs.lemmas.Result.{err_from_is_err_and}
use Rattle.lx_line.specs.Styles.{Drafted}
use Rattle.lx_listing.specs.Lines.{file_lines_by}
use Rattle.lx_listing.specs.Parts.{WrotePart}
use Rattle.lx_listing.proofs.FileLines.{files_on, files_part}
use Rattle.lx_listing.proofs.direct.write_files.Goals as goal

pub returns-in_err-write_file-clause-part : goal.returns-in_err-write_file-clause-part
returns-in_err-write_file-clause-part g c =
    let p = err_from_is_err_and c.from_residual.result c.from_residual.ensures.1 in
    rw p.1 (files_part g.S.LineSink.wrote g.met.S.LineSink.wrote_on (g.L.LineStyle.style c.args.style) c.args.plan.now c.loop-file.file c.args.sink.now c.loop-file.sink c.write_file.new.sink c.in_err-write_file.field-0.0
    (omega (arith, c.loop-file-test.true, c.files-file-end.ensures.count)) c.loop-file.invariant.wrote (subst (λ style. WrotePart g.S.LineSink.wrote c.loop-file.sink c.in_err-write_file.field-0.0 (file_lines_by (g.L.LineStyle.style style) c.args.plan.now c.loop-file.file) c.write_file.new.sink) c.loop-file.invariant.style c.in_err-write_file.ensures.part))

pub loop-file-preserved : goal.loop-file-preserved
loop-file-preserved g c = record {
  style = ap (λ (d : Drafted _). d.style) c.in_ok-write_file.ensures.draft ∙ c.loop-file.invariant.style;
  plan = ap (λ (d : Drafted _). d.plan) c.in_ok-write_file.ensures.draft ∙ c.loop-file.invariant.plan;
  wrote = files_on g.S.LineSink.wrote g.met.S.LineSink.wrote_on (g.L.LineStyle.style c.args.style) c.args.plan.now c.loop-file.file c.args.sink.now c.loop-file.sink c.write_file.new.sink c.loop-file.invariant.wrote (subst (λ style. g.S.LineSink.wrote c.loop-file.sink (file_lines_by (g.L.LineStyle.style style) c.args.plan.now c.loop-file.file) c.write_file.new.sink) c.loop-file.invariant.style c.in_ok-write_file.ensures.ok);
}
