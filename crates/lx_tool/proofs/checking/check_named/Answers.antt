use Rattle.std.proofs.Common.{refl}
use Rattle.std.specs.Io.KnownBytes.{Appends}
use Rattle.std.specs.Prelude.{OnOk}
use Rattle.std.proofs.lemmas.Result.{err_from_is_err_and, on_ok_weaker}
use Rattle.lx_cli.specs.CommandLine.{plain_check}
use Rattle.lx_tool.proofs.Obeyed.{check_refused, flex_refused, keeps_itself, warning_refused}
use Rattle.lx_tool.proofs.checking.check_named.Goals as goal

pub returns-in_err-judge_flex-clause-err : goal.returns-in_err-judge_flex-clause-err
returns-in_err-judge_flex-clause-err g c =
    let p = err_from_is_err_and c.from_residual.result c.from_residual.ensures.1 in
    let held = g.O.Write.contents c.args.out.now in
    rw (p.1, p.2) (flex_refused g.S.Sources.gives c.args.sources.now held held (plain_check c.args.words.now) (keeps_itself held) c.in_err-judge_flex.field-0.0 c.in_err-judge_flex.ensures.err)

pub returns-in_err-warnings-clause-err : goal.returns-in_err-warnings-clause-err
returns-in_err-warnings-clause-err g c =
    let p = err_from_is_err_and c.from_residual-in_err-warnings.result c.from_residual-in_err-warnings.ensures.1 in
    let held = g.O.Write.contents c.args.out.now in
    rw (p.1, p.2) (warning_refused g.S.Sources.gives c.args.sources.now held held (plain_check c.args.words.now) (keeps_itself held) c.in_err-warnings.field-0.0 c.in_err-warnings.ensures.err)

pub returns-in_err-said-clause-err : goal.returns-in_err-said-clause-err
returns-in_err-said-clause-err g c =
    let p = err_from_is_err_and c.from_residual-in_err-said.result c.from_residual-in_err-said.ensures.1 in
    let held = g.O.Write.contents c.args.out.now in
    rw (p.1, p.2) (check_refused g.S.Sources.gives c.args.sources.now held held (plain_check c.args.words.now) c.in_ok-text.text.items
    (λ failure reported. record { text = c.in_ok-text.text.items; after = c.read_whole.new.sources; given = c.in_ok-text.ensures.ok; refused = reported })
    (keeps_itself held) c.in_err-said.field-0.0 (rw c.deref.ensures.value at c.in_err-said.ensures.err))

pub returns-clause-ok : goal.returns-clause-ok
returns-clause-ok g c =
    on_ok_weaker c.write_text.result
    (λ h. (
      record {
        plain = c.in_ok-judge_flex.ensures.ok;
        text = c.in_ok-text.text.items;
        given = c.in_ok-text.ensures.ok;
        accepted = rw c.deref.ensures.value at c.in_ok-said.ensures.ok;
        said = c.deref-2.result.now;
        tells = λ json. rw c.deref-2.ensures.value (c.in_ok-said.ensures.tells json);
        wrote = h;
      },
      refl,
    ))
    c.write_text.ensures.ok
