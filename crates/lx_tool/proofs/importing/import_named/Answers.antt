use Rattle.std.proofs.Common.{inl, inr, refl, subst}
use Rattle.std.proofs.lemmas.Result.{err_from_is_err_and, on_ok_weaker}
use Rattle.lx_cli.specs.CommandLine.{PlainC, imports, plain_import}
use Rattle.lx_tool.specs.Importing.{IsOfFlex, kinds_words}
use Rattle.lx_tool.specs.Outputs.{AreOutputsOfImportRefused}
use Rattle.lx_tool.specs.Printing.{AreScannerWordsRefused}
use Rattle.lx_tool.proofs.Obeyed.{import_refused, import_unplaced, import_unwritten, keeps_itself, outputs_refused, scanner_refused}
use Rattle.lx_tool.proofs.importing.import_named.Goals as goal

pub returns-in_err-judge_scanner_words-clause-err : goal.returns-in_err-judge_scanner_words-clause-err
returns-in_err-judge_scanner_words-clause-err g c =
    let p = err_from_is_err_and c.from_residual.result c.from_residual.ensures.1 in
    let i = plain_import c.args.words.now in
    let held = g.O.Write.contents c.args.out.now in
    rw (p.1, p.2) (scanner_refused g.S.Sources.gives c.args.sources.now held held (imports i) (kinds_words i) (λ fault h. inr (inr h)) (keeps_itself held) c.in_err-judge_scanner_words.field-0.0 (subst (λ (words : PlainC). AreScannerWordsRefused words c.in_err-judge_scanner_words.field-0.0) c.scanner_words-kinds.ensures c.in_err-judge_scanner_words.ensures.err))

pub returns-in_err-judge_outputs_of_import-clause-err : goal.returns-in_err-judge_outputs_of_import-clause-err
returns-in_err-judge_outputs_of_import-clause-err g c =
    let p = err_from_is_err_and c.from_residual-in_err-judge_outputs_of_import.result c.from_residual-in_err-judge_outputs_of_import.ensures.1 in
    let i = plain_import c.args.words.now in
    let held = g.O.Write.contents c.args.out.now in
    rw (p.1, p.2) (outputs_refused g.S.Sources.gives c.args.sources.now held held (imports i) (AreOutputsOfImportRefused i) (λ fault h. inr (inl (fault, refl, h))) (keeps_itself held) c.in_err-judge_outputs_of_import.field-0.0 c.in_err-judge_outputs_of_import.ensures.err)

pub returns-in_err-imported-clause-err : goal.returns-in_err-imported-clause-err
returns-in_err-imported-clause-err g c =
    let p = err_from_is_err_and c.from_residual-in_err-imported.result c.from_residual-in_err-imported.ensures.1 in
    let held = g.O.Write.contents c.args.out.now in
    rw (p.1, p.2) (import_refused g.S.Sources.gives c.args.sources.now held held (plain_import c.args.words.now)
    (λ failure none. record { text = c.in_ok-text.text.items; after = c.read_whole.new.sources; given = c.in_ok-text.ensures.ok; refused = none })
    (keeps_itself held) c.in_err-imported.field-0.0 c.in_err-imported.ensures.err)

pub returns-in_err-place_text-clause-err : goal.returns-in_err-place_text-clause-err
returns-in_err-place_text-clause-err g c =
    let p = err_from_is_err_and c.from_residual-in_err-place_text.result c.from_residual-in_err-place_text.ensures.1 in
    let i = plain_import c.args.words.now in
    let held = g.O.Write.contents c.args.out.now in
    rw (p.1, p.2) (import_unplaced g.S.Sources.gives c.args.sources.now held held i i.actions (λ some. inl (refl, inl some)) c.in_err-place_text.field-0.0 (λ low. keeps_itself held) c.in_err-place_text.ensures.err)

pub returns-clause-ok : goal.returns-clause-ok
returns-clause-ok g c =
    let of_flex : IsOfFlex c.in_ok-imported.imported.specification.items = c.in_ok-imported.ensures.ok in
    on_ok_weaker c.write_or_place.result
    (λ h. (
      record {
        text = c.in_ok-text.text.items;
        given = c.in_ok-text.ensures.ok;
        printed = c.in_ok-imported.imported.specification.items;
        of_flex = of_flex;
        written = h;
      },
      refl,
    ))
    (rw c.deref-3.ensures.value at c.write_or_place.ensures.ok)

pub returns-clause-placed : goal.returns-clause-placed
returns-clause-placed g c =
    let of_flex : IsOfFlex c.in_ok-imported.imported.specification.items = c.in_ok-imported.ensures.ok in
    on_ok_weaker c.write_or_place.result
    (λ h. record {
      text = c.in_ok-text.text.items;
      after = c.read_whole.new.sources;
      given = c.in_ok-text.ensures.ok;
      printed = c.in_ok-imported.imported.specification.items;
      of_flex = of_flex;
      actions = c.in_ok-imported.imported.cases.items;
      between = c.place_text.new.targets;
      apart = c.in_ok-judge_outputs_of_import.ensures.ok;
      first = rw c.deref-2.ensures.value at c.in_ok-place_text.ensures.ok;
      second = h;
    })
    (rw c.deref-3.ensures.value at c.write_or_place.ensures.placed)

pub returns-clause-err : goal.returns-clause-err
returns-clause-err g c =
    let i = plain_import c.args.words.now in
    import_unwritten g.S.Sources.gives c.args.sources.now (g.O.Write.contents c.args.out.now) (g.O.Write.contents c.write_or_place.new.out) i i.target (λ some. inl (refl, inr some)) c.write_or_place.result
    c.write_or_place.ensures.err c.write_or_place.ensures.kept
