use Rattle.std.proofs.lemmas.Result.{on_ok_weaker}
use Rattle.lx_diagnose.specs.CodeWords.{word_of}
use Rattle.lx_report.proofs.Telling.{told_more}
use Rattle.lx_report.proofs.errors.push_fault.Goals as goal

pub returns : goal.returns
returns c =
    on_ok_weaker c.push_details.result
    (λ h. told_more c.args.subject.now.file.now (word_of c.args.fault.code) c.args.fault.line _ _ _ c.in_ok-push_fault_line.ensures h)
    c.push_details.ensures
