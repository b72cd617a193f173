use Rattle.std.proofs.lemmas.Bool.{ne_eqb}
use Rattle.std.proofs.lemmas.Result.{on_ok_weaker}
use Rattle.lx_report.specs.Sarif.{end_column, first_column}
use Rattle.lx_report.proofs.Texts.{two}
use Rattle.lx_report.proofs.sarif.push_columns.Goals as goal

pub returns : goal.returns
returns c =
    rw (ne_eqb c.args.column 0 c.if-column-eq0.false)
    (on_ok_weaker c.push_numbered-2.result
    (λ h. two _ _ _ (first_column c.args.column) (end_column c.args.behind) c.in_ok-push_numbered.ensures h)
    c.push_numbered-2.ensures)
