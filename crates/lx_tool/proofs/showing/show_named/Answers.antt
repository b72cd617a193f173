use Rattle.std.proofs.Common.{◌≡◌, inr, refl}
use Rattle.std.specs.Io.KnownBytes.{Appends}
use Rattle.std.specs.Prelude.{OnOk}
use Rattle.lx_graph.specs.Graph.{graph_text}
use Rattle.std.proofs.lemmas.Result.{IfErr-weaker, err_from_is_err_and, on_ok_weaker}
use Rattle.lx_rules.specs.views.Rules.{names_view}
use Rattle.lx_cli.specs.CommandLine.{plain_show}
use Rattle.lx_tool.specs.Showing.{AreShown}
use Rattle.lx_tool.proofs.Obeyed.{keeps_itself, show_refused, show_too_large}
use Rattle.lx_tool.proofs.showing.show_named.Goals as goal

pub returns-in_err-shown-clause-err : goal.returns-in_err-shown-clause-err
returns-in_err-shown-clause-err g c =
    let p = err_from_is_err_and c.from_residual-in_err-shown.result c.from_residual-in_err-shown.ensures.1 in
    let held = g.O.Write.contents c.args.out.now in
    rw (p.1, p.2) (show_refused g.S.Sources.gives c.args.sources.now held held (plain_show c.args.words) c.in_ok-text.text.items
    (λ failure none. record { text = c.in_ok-text.text.items; after = c.read_whole.new.sources; given = c.in_ok-text.ensures.ok; refused = none })
    (keeps_itself held) c.in_err-shown.field-0.0 (rw c.deref.ensures.value at c.in_err-shown.ensures.err))

pub returns-in_err-judge_size-clause-err : goal.returns-in_err-judge_size-clause-err
returns-in_err-judge_size-clause-err g c =
    let p = err_from_is_err_and c.from_residual-in_err-judge_size.result c.from_residual-in_err-judge_size.ensures.1 in
    let held = g.O.Write.contents c.args.out.now in
    let shown : AreShown c.in_ok-text.text.items c.in_ok-shown.shown.tables (names_view c.in_ok-shown.shown.names.items) = rw c.deref.ensures.value at c.in_ok-shown.ensures.ok in
    rw (p.1, p.2) (show_too_large g.S.Sources.gives c.args.sources.now held held (plain_show c.args.words) c.in_ok-shown.shown.tables
    (λ failure many. record {
      text = c.in_ok-text.text.items;
      after = c.read_whole.new.sources;
      given = c.in_ok-text.ensures.ok;
      refused = inr (record { table = c.in_ok-shown.shown.tables; names = names_view c.in_ok-shown.shown.names.items; shown = shown; many = many });
    })
    (keeps_itself held) c.in_err-judge_size.field-0.0 c.in_err-judge_size.ensures.err)

pub returns-clause-ok : goal.returns-clause-ok
returns-clause-ok g c =
    let names = names_view c.in_ok-shown.shown.names.items in
    let shown : AreShown c.in_ok-text.text.items c.in_ok-shown.shown.tables names = rw c.deref.ensures.value at c.in_ok-shown.ensures.ok in
    let graph : c.in_ok-graph.graph.items ≡ graph_text c.in_ok-shown.shown.tables names = rw c.deref-2.ensures.value at c.in_ok-graph.ensures in
    let wrote : OnOk c.write_text.result (Appends (g.O.Write.contents c.args.out.now) (g.O.Write.contents c.write_text.new.out) (graph_text c.in_ok-shown.shown.tables names)) =
    rw (c.deref-3.ensures.value, graph) at c.write_text.ensures.ok in
    on_ok_weaker c.write_text.result
    (λ h. (
      record {
        text = c.in_ok-text.text.items;
        given = c.in_ok-text.ensures.ok;
        table = c.in_ok-shown.shown.tables;
        names = names;
        shown = shown;
        few = c.in_ok-judge_size.ensures.ok;
        wrote = h;
      },
      refl,
    ))
    wrote
