use Rattle.std.proofs.Common.{Some, zero, refl, arith}
use Rattle.std.proofs.lemmas.Result.{IfErr-weaker, IfOk-weaker, err_from_is_err_and}
use Rattle.lx_cli.specs.CommandLine.{plain_order, scan}
use Rattle.lx_tool.specs.Planning.{ListsAsked, ListsByTextIn}
use Rattle.lx_tool.specs.Tabling.{AreTablesIn}
use Rattle.lx_tool.proofs.GivenListed.{listed_as_well}
use Rattle.lx_tool.proofs.Obeyed.{failed_or_stopped, keeps_itself, later_stopped, rules_no_table, rules_unread, words_refused}
use Rattle.lx_tool.proofs.program.list_by_tables_of.Goals as goal

pub returns-in_err-judge_words-clause-err : goal.returns-in_err-judge_words-clause-err
returns-in_err-judge_words-clause-err g c =
    let p = err_from_is_err_and c.from_residual.result c.from_residual.ensures.1 in
    let gives = g.S.Sources.gives in
    let order = plain_order c.args.order.now in
    let before = c.args.sources.now in
    let held = g.O.Write.contents c.args.out.now in
    let failure = c.in_err-judge_words.field-0.0 in
    rw (p.1, p.2) (failed_or_stopped gives (Some (scan order)) before held held failure
    (words_refused gives before held held (scan order) order (λ h. h) (λ h. h) (λ fault h. h) (keeps_itself held) failure c.in_err-judge_words.ensures.err))

pub returns-in_err-text-clause-err : goal.returns-in_err-text-clause-err
returns-in_err-text-clause-err g c =
    let p = err_from_is_err_and c.from_residual-in_err-text.result c.from_residual-in_err-text.ensures.1 in
    let gives = g.S.Sources.gives in
    let order = plain_order c.args.order.now in
    let before = c.args.sources.now in
    let held = g.O.Write.contents c.args.out.now in
    let failure = c.in_err-text.field-0.0 in
    rw (p.1, p.2) (failed_or_stopped gives (Some (scan order)) before held held failure
    (rules_unread gives before held held (scan order) order.rules (zero, omega arith, refl) (keeps_itself held) failure c.in_err-text.ensures.err))

pub returns-in_err-tables-clause-err : goal.returns-in_err-tables-clause-err
returns-in_err-tables-clause-err g c =
    let p = err_from_is_err_and c.from_residual-in_err-tables.result c.from_residual-in_err-tables.ensures.1 in
    let gives = g.S.Sources.gives in
    let order = plain_order c.args.order.now in
    let before = c.args.sources.now in
    let between = c.read_whole.new.sources in
    let held = g.O.Write.contents c.args.out.now in
    let text = c.in_ok-text.text.items in
    let failure = c.in_err-tables.field-0.0 in
    rw (p.1, p.2) (failed_or_stopped gives (Some (scan order)) before held held failure
    (rules_no_table gives before held held text between (scan order) (λ f h. record { text = text; after = between; given = c.in_ok-text.ensures.ok; refused = h }) (keeps_itself held) failure (rw c.deref.ensures.value at c.in_err-tables.ensures.err)))

pub returns-clause-ok : goal.returns-clause-ok
returns-clause-ok g c =
    let gives = g.S.Sources.gives in
    let order = plain_order c.args.order.now in
    let old = g.O.Write.contents c.args.out.now in
    let new = g.O.Write.contents c.list_asked.new.out in
    let text = c.in_ok-text.text.items in
    let table = c.in_ok-tables.tables in
    let made : AreTablesIn c.in_ok-text.text.items table = rw c.deref.ensures.value at c.in_ok-tables.ensures.ok in
    IfOk-weaker c.list_asked.result _ _
    (λ cut h. record {
      text = text;
      between = c.read_whole.new.sources;
      given = c.in_ok-text.ensures.ok;
      names = h.names;
      behind = h.behind;
      named = h.named;
      judged = h.judged;
      listed = listed_as_well gives (λ inputs. ListsAsked order.form table h.names inputs old new) (λ inputs. ListsByTextIn order.form text h.names inputs old new)
          (λ inputs bytes l. record { table = table; is_table = made.0; of_text = made.1; listed = l }) h.names h.behind c.list_asked.new.sources _ h.listed;
    })
    c.list_asked.ensures.ok

pub returns-clause-err : goal.returns-clause-err
returns-clause-err g c =
    let gives = g.S.Sources.gives in
    let order = plain_order c.args.order.now in
    let old = g.O.Write.contents c.args.out.now in
    let new = g.O.Write.contents c.list_asked.new.out in
    let between = c.read_whole.new.sources in
    let table = c.in_ok-tables.tables in
    let made : AreTablesIn c.in_ok-text.text.items table = rw c.deref.ensures.value at c.in_ok-tables.ensures.ok in
    IfErr-weaker c.list_asked.result _ _
    (later_stopped gives c.args.sources.now old new (scan order) order table between
    (λ failure h. record { text = c.in_ok-text.text.items; between = between; given = c.in_ok-text.ensures.ok; table = table; tables = made; holds = h })
    (λ failure h. record { text = c.in_ok-text.text.items; between = between; given = c.in_ok-text.ensures.ok; table = table; tables = made; holds = h }))
    c.list_asked.ensures.err
