use Rattle.std.proofs.Common.{Bor, ℕ, List, map, refl, subst, sym}
use Rattle.std.proofs.lemmas.Result.{IfErr-weaker, IfOk-weaker, err_from_is_err_and}
use Rattle.lx_forms.specs.Views.{form_view}
use Rattle.lx_cli.specs.CommandLine.{plain_order}
use Rattle.lx_tool.specs.Naming.{AreJudged, IsFormOf}
use Rattle.lx_tool.proofs.GivenListed.{listed_as_well}
use Rattle.lx_tool.proofs.NamesRefused.{files_refused, form_asked, judged_refused, names_refused, only_refused}
use Rattle.lx_tool.proofs.Obeyed.{keeps_itself}
use Rattle.lx_tool.proofs.asked.list_asked.Goals as goal

pub returns-in_err-only-clause-err : goal.returns-in_err-only-clause-err
returns-in_err-only-clause-err g c =
    let p = err_from_is_err_and c.from_residual.result c.from_residual.ensures.1 in
    let held = g.O.Write.contents c.args.out.now in
    rw (p.1, p.2) (only_refused g.S.Sources.gives (plain_order c.args.order.now) c.args.tables c.args.sources.now held held (keeps_itself held) c.in_err-only.field-0.0 c.in_err-only.ensures.err)

pub returns-in_err-names-clause-err : goal.returns-in_err-names-clause-err
returns-in_err-names-clause-err g c =
    let p = err_from_is_err_and c.from_residual-in_err-names.result c.from_residual-in_err-names.ensures.1 in
    let held = g.O.Write.contents c.args.out.now in
    rw (p.1, p.2) (names_refused g.S.Sources.gives (plain_order c.args.order.now) c.args.tables c.args.sources.now held held (keeps_itself held) c.in_err-names.field-0.0 c.in_err-names.ensures.err)

pub returns-in_err-judge_names-clause-err : goal.returns-in_err-judge_names-clause-err
returns-in_err-judge_names-clause-err g c =
    let p = err_from_is_err_and c.from_residual-in_err-judge_names.result c.from_residual-in_err-judge_names.ensures.1 in
    let held = g.O.Write.contents c.args.out.now in
    let names : List (List ℕ) = map (λ (name : Bor (List ℕ)). name.now) c.in_ok-names.names.items in
    rw (p.1, p.2)
    (judged_refused g.S.Sources.gives (plain_order c.args.order.now) c.args.tables c.args.sources.now held held names c.names_of.new.sources c.in_ok-names.ensures.ok (keeps_itself held) c.in_err-judge_names.field-0.0
    (rw c.deref.ensures.value at c.in_err-judge_names.ensures.err))

pub returns-clause-ok : goal.returns-clause-ok
returns-clause-ok g c =
    let gives = g.S.Sources.gives in
    let order = plain_order c.args.order.now in
    let table = c.args.tables in
    let between = c.names_of.new.sources in
    let old = g.O.Write.contents c.args.out.now in
    let new = g.O.Write.contents c.list_or_stream.new.out in
    let names : List (List ℕ) = map (λ (name : Bor (List ℕ)). name.now) c.in_ok-names.names.items in
    let form = form_view c.form_of-form.result in
    let judged : AreJudged order names = rw c.deref.ensures.value at c.in_ok-judge_names.ensures.ok in
    let is = rw c.deref-3.ensures.value at c.form_of-form.ensures in
    let asked : IsFormOf order.form table names form
    = subst (IsFormOf order.form table names) (sym is) (record { first = refl; names_are = rw c.deref-2.ensures.value at c.in_ok-shown.ensures; only = c.in_ok-only.ensures.ok; text = refl; format = refl }) in
    IfOk-weaker c.list_or_stream.result _ _
    (λ cut l. record {
      names = names;
      behind = between;
      named = c.in_ok-names.ensures.ok;
      judged = judged;
      listed = listed_as_well gives _ _ (λ inputs bytes. form_asked gives order table c.args.sources.now old new names between c.in_ok-names.ensures.ok judged form asked inputs) names between c.list_or_stream.new.sources _ l;
    })
    (rw c.deref-4.ensures.value at c.list_or_stream.ensures.ok)

pub returns-clause-err : goal.returns-clause-err
returns-clause-err g c =
    let order = plain_order c.args.order.now in
    let table = c.args.tables in
    let old = g.O.Write.contents c.args.out.now in
    let new = g.O.Write.contents c.list_or_stream.new.out in
    let names : List (List ℕ) = map (λ (name : Bor (List ℕ)). name.now) c.in_ok-names.names.items in
    let form = form_view c.form_of-form.result in
    let judged : AreJudged order names = rw c.deref.ensures.value at c.in_ok-judge_names.ensures.ok in
    let is = rw c.deref-3.ensures.value at c.form_of-form.ensures in
    let asked : IsFormOf order.form table names form
    = subst (IsFormOf order.form table names) (sym is) (record { first = refl; names_are = rw c.deref-2.ensures.value at c.in_ok-shown.ensures; only = c.in_ok-only.ensures.ok; text = refl; format = refl }) in
    IfErr-weaker c.list_or_stream.result _ _
    (files_refused g.S.Sources.gives order table c.args.sources.now old new names c.names_of.new.sources c.in_ok-names.ensures.ok judged form asked)
    (rw c.deref-4.ensures.value at c.list_or_stream.ensures.err)
