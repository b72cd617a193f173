use Rattle.std.proofs.Common.{ap, ◌∙◌, ◌++◌, codes}
use Rattle.std.proofs.lemmas.Bool.{ne_eqb}
use Rattle.std.proofs.lemmas.Result.{on_ok_weaker}
use Rattle.lx_report.specs.Sarif.{behind, columns, first_line}
use Rattle.lx_report.proofs.Texts.{three}
use Rattle.lx_report.proofs.sarif.push_region.Goals as goal

pub returns : goal.returns
returns c =
    let columns_are = c.in_ok-push_columns.ensures ∙ ap (λ b. c.push_numbered.new.text.items ++ columns c.args.place.column b) c.column_after.ensures in
    rw (ne_eqb c.args.place.line 0 c.if-place-eq0.false)
    (on_ok_weaker c.push.result
    (λ h. three _ _ _ _ (first_line c.args.place.line) (columns c.args.place.column (behind c.args.place)) (codes "}") c.in_ok-push_numbered.ensures columns_are h)
    c.push.ensures)
