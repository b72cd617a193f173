use Rattle.std.proofs.Common.{inr, refl}
use Rattle.lx_check.specs.Further.{AreFindings, IfRefused}
use Rattle.lx_cli.specs.CommandLine.{plain_check}
use Rattle.lx_tool.specs.Checking.{HasErrors, IsReportOf}
use Rattle.lx_tool.proofs.Reporting.{accepted_told, had_errors, none_accepted}
use Rattle.lx_tool.proofs.checking.said_of.Goals as goal

pub returns-then-is_refused-clause-err : goal.returns-then-is_refused-clause-err
returns-then-is_refused-clause-err c =
    let each : IfRefused (AreFindings c.args.words.now.most c.args.text.now) c.in_ok-report.report = rw c.from.ensures at c.in_ok-report.ensures.each in
    let of_text : IsReportOf c.args.words.now.most c.args.text.now c.in_ok-report.report = record { verdict = c.in_ok-report.ensures.first; each = each; chosen = c.in_ok-report.ensures.chosen } in
    inr (record { report = c.in_ok-report.report; of_text = of_text; said = c.in_ok-said.said.text.items; refused = none_accepted (HasErrors (plain_check c.args.words.now) c.in_ok-said.said.text.items) c.in_ok-report.report (c.is_refused.ensures.refused c.if-is_refused.true); carried = refl; tells = c.in_ok-said.ensures.verdict })

pub returns-then-has_errors-clause-err : goal.returns-then-has_errors-clause-err
returns-then-has_errors-clause-err c =
    let each : IfRefused (AreFindings c.args.words.now.most c.args.text.now) c.in_ok-report.report = rw c.from.ensures at c.in_ok-report.ensures.each in
    let of_text : IsReportOf c.args.words.now.most c.args.text.now c.in_ok-report.report = record { verdict = c.in_ok-report.ensures.first; each = each; chosen = c.in_ok-report.ensures.chosen } in
    inr (record {
      report = c.in_ok-report.report;
      of_text = of_text;
      said = c.in_ok-said.said.text.items;
      refused = had_errors (plain_check c.args.words.now) c.args.warnings.kinds c.args.warnings.are_errors c.in_ok-said.said.warnings c.in_ok-said.said.text.items c.in_ok-report.report
          c.requires.errors c.requires.kinds (c.has_errors.ensures.yes c.if-has_errors.true) c.in_ok-said.ensures.warnings;
      carried = refl;
      tells = c.in_ok-said.ensures.verdict;
    })

pub returns-clause-ok : goal.returns-clause-ok
returns-clause-ok c =
    let each : IfRefused (AreFindings c.args.words.now.most c.args.text.now) c.in_ok-report.report = rw c.from.ensures at c.in_ok-report.ensures.each in
    let of_text : IsReportOf c.args.words.now.most c.args.text.now c.in_ok-report.report = record { verdict = c.in_ok-report.ensures.first; each = each; chosen = c.in_ok-report.ensures.chosen } in
    record { report = c.in_ok-report.report; of_text = of_text; accepted = c.is_refused.ensures.accepted c.if-is_refused.false }

pub returns-clause-tells : goal.returns-clause-tells
returns-clause-tells c = λ json.
    accepted_told (plain_check c.args.words.now) c.args.warnings.kinds c.args.warnings.are_errors c.in_ok-said.said.warnings c.in_ok-said.said.text.items c.in_ok-report.report
    (c.is_refused.ensures.accepted c.if-is_refused.false) c.requires.errors c.requires.kinds (c.has_errors.ensures.no c.if-has_errors.false) (c.in_ok-said.ensures.warnings json)
