use Rattle.std.proofs.Common.{[], ap, ◌∙◌, subst}
use Rattle.std.proofs.lemmas.Result.{on_ok_weaker}
use Rattle.lx_diagnose.specs.CodeWords.{word_of}
use Rattle.lx_report.specs.Said.{TellsFault}
use Rattle.lx_report.proofs.Telling.{told_line}
use Rattle.lx_report.proofs.errors.push_fault_line.Goals as goal

pub returns : goal.returns
returns c =
    let file = c.args.subject.now.file.now in
    let code = c.as_bytes.ensures.value ∙ (c.code_word.ensures ∙ ap word_of c.requires.code) in
    on_ok_weaker c.push_line.result
    (λ h. subst (λ word. TellsFault file word c.args.fault.line c.args.text.now.items c.push_line.new.text.items) code
    (told_line file c.as_bytes.result.now c.deref.result.now [] c.place_of.result c.args.fault.line _ _ (c.place_of.ensures ∙ c.requires.line) h))
    c.push_line.ensures
