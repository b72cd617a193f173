use Rattle.std.proofs.Common.{[], refl, subst}
use Rattle.std.proofs.lemmas.Result.{on_ok_weaker}
use Rattle.lx_report.specs.Said.{TellsFault}
use Rattle.lx_report.proofs.Telling.{told_line, told_more}
use Rattle.lx_report.proofs.errors.push_too_large.Goals as goal

pub returns-then-subject : goal.returns-then-subject
returns-then-subject c =
    let file = c.args.subject.now.file.now in
    subst (λ word. TellsFault file word 0 c.args.text.now.items c.push_line.new.text.items) c.as_bytes.ensures.value
    (told_line file c.as_bytes.result.now c.as_bytes-2.result.now [] (record { line = 0; column = 0; width = 0 }) 0 _ _ refl c.in_ok-push_line.ensures)

pub returns : goal.returns
returns c =
    let file = c.args.subject.now.file.now in
    let told = subst (λ word. TellsFault file word 0 c.args.text.now.items c.push_line.new.text.items) c.as_bytes.ensures.value
    (told_line file c.as_bytes.result.now c.as_bytes-2.result.now [] (record { line = 0; column = 0; width = 0 }) 0 _ _ refl c.in_ok-push_line.ensures) in
    on_ok_weaker c.push_note.result (λ h. told_more file c.args.code.now 0 _ _ _ told h) c.push_note.ensures
