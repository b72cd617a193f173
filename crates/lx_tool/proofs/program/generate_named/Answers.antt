use Rattle.std.proofs.Common.{inl, inr, refl}
use Rattle.std.proofs.lemmas.Result.{IfErr-weaker, err_from_is_err_and, on_ok_weaker}
use Rattle.lx_c.specs.Options.{named}
use Rattle.lx_rules.specs.views.Specs.{spec_view}
use Rattle.lx_cli.specs.CommandLine.{plain_print, gen}
use Rattle.lx_tool.specs.Outputs.{IsOverwritten}
use Rattle.lx_tool.specs.Printing.{condition_names, options_by, printed_text}
use Rattle.lx_tool.proofs.Obeyed.{keeps_itself, outputs_refused, printing_refused, rules_no_tables, scanner_refused}
use Rattle.lx_tool.proofs.program.generate_named.Goals as goal

pub returns-in_err-judge_scanner_words-clause-err : goal.returns-in_err-judge_scanner_words-clause-err
returns-in_err-judge_scanner_words-clause-err g c =
    let p = err_from_is_err_and c.from_residual.result c.from_residual.ensures.1 in
    let print = plain_print c.args.words in
    let held = g.O.Write.contents c.args.out.now in
    rw (p.1, p.2) (scanner_refused g.S.Sources.gives c.args.sources.now held held (gen print) print.c (λ fault h. inr h) (keeps_itself held) c.in_err-judge_scanner_words.field-0.0 c.in_err-judge_scanner_words.ensures.err)

pub returns-in_err-options-clause-err : goal.returns-in_err-options-clause-err
returns-in_err-options-clause-err g c =
    let p = err_from_is_err_and c.from_residual-in_err-options.result c.from_residual-in_err-options.ensures.1 in
    let print = plain_print c.args.words in
    let held = g.O.Write.contents c.args.out.now in
    rw (p.1, p.2) (scanner_refused g.S.Sources.gives c.args.sources.now held held (gen print) print.c (λ fault h. inr h) (keeps_itself held) c.in_err-options.field-0.0 c.in_err-options.ensures.err)

pub returns-in_err-spec-clause-err : goal.returns-in_err-spec-clause-err
returns-in_err-spec-clause-err g c =
    let p = err_from_is_err_and c.from_residual-in_err-spec.result c.from_residual-in_err-spec.ensures.1 in
    let print = plain_print c.args.words in
    let held = g.O.Write.contents c.args.out.now in
    rw (p.1, p.2) (rules_no_tables g.S.Sources.gives c.args.sources.now held held c.in_ok-text.text.items c.read_whole.new.sources (gen print)
    (λ failure none. record { text = c.in_ok-text.text.items; after = c.read_whole.new.sources; given = c.in_ok-text.ensures.ok; refused = inl none }) (keeps_itself held) c.in_err-spec.field-0.0
    (rw c.deref.ensures.value at c.in_err-spec.ensures.err))

pub returns-in_err-tables-clause-err : goal.returns-in_err-tables-clause-err
returns-in_err-tables-clause-err g c =
    let p = err_from_is_err_and c.from_residual-in_err-tables.result c.from_residual-in_err-tables.ensures.1 in
    let print = plain_print c.args.words in
    let held = g.O.Write.contents c.args.out.now in
    rw (p.1, p.2) (rules_no_tables g.S.Sources.gives c.args.sources.now held held c.in_ok-text.text.items c.read_whole.new.sources (gen print)
    (λ failure none. record { text = c.in_ok-text.text.items; after = c.read_whole.new.sources; given = c.in_ok-text.ensures.ok; refused = inl none }) (keeps_itself held) c.in_err-tables.field-0.0
    (c.in_err-tables.ensures.err c.in_ok-text.text.items (rw c.deref.ensures.value at c.in_ok-spec.ensures.ok)))

pub returns-in_err-judge_output-clause-err : goal.returns-in_err-judge_output-clause-err
returns-in_err-judge_output-clause-err g c =
    let p = err_from_is_err_and c.from_residual-in_err-judge_output.result c.from_residual-in_err-judge_output.ensures.1 in
    let print = plain_print c.args.words in
    let held = g.O.Write.contents c.args.out.now in
    rw (p.1, p.2) (outputs_refused g.S.Sources.gives c.args.sources.now held held (gen print) (λ fault. IsOverwritten fault print.target print.rules) (λ fault h. inl (inr (fault, refl, h))) (keeps_itself held) c.in_err-judge_output.field-0.0 c.in_err-judge_output.ensures.err)

pub returns-clause-ok : goal.returns-clause-ok
returns-clause-ok g c =
    let print = plain_print c.args.words in
    let table = c.in_ok-tables.tables in
    let spec = spec_view c.in_ok-spec.spec in
    on_ok_weaker c.print_noted.result
    (λ h. (
      record {
        text = c.in_ok-text.text.items;
        given = c.in_ok-text.ensures.ok;
        printed = printed_text print.c (named (options_by print.c) (condition_names spec)) table;
        prints = record {
          spec = spec;
          read = rw c.deref.ensures.value at c.in_ok-spec.ensures.ok;
          table = table;
          of_spec = c.in_ok-tables.ensures.ok;
          prints = record { words = c.in_ok-judge_scanner_words.ensures.asked; kinds = h.kinds; is = refl };
        };
        written = h.written;
      },
      refl,
    ))
    (rw c.in_ok-options.ensures.ok at c.print_noted.ensures.ok)

pub returns-clause-placed : goal.returns-clause-placed
returns-clause-placed g c =
    let print = plain_print c.args.words in
    let table = c.in_ok-tables.tables in
    let spec = spec_view c.in_ok-spec.spec in
    on_ok_weaker c.print_noted.result
    (λ h. record {
      text = c.in_ok-text.text.items;
      after = c.read_whole.new.sources;
      given = c.in_ok-text.ensures.ok;
      printed = printed_text print.c (named (options_by print.c) (condition_names spec)) table;
      prints = record {
        spec = spec;
        read = rw c.deref.ensures.value at c.in_ok-spec.ensures.ok;
        table = table;
        of_spec = c.in_ok-tables.ensures.ok;
        prints = record { words = c.in_ok-judge_scanner_words.ensures.asked; kinds = h.kinds; is = refl };
      };
      apart = c.in_ok-judge_output.ensures.ok;
      placed = h.placed;
    })
    (rw c.in_ok-options.ensures.ok at c.print_noted.ensures.placed)

pub returns-clause-err : goal.returns-clause-err
returns-clause-err g c =
    let print = plain_print c.args.words in
    let table = c.in_ok-tables.tables in
    let spec = spec_view c.in_ok-spec.spec in
    IfErr-weaker c.print_noted.result _ _
    (printing_refused g.S.Sources.gives c.args.sources.now (g.O.Write.contents c.args.out.now) (g.O.Write.contents c.print_noted.new.out) (gen print) print.c (named (options_by print.c) (condition_names spec)) table print.target (λ some. inl (inl (refl, some)))
    (λ failure k. record {
      text = c.in_ok-text.text.items;
      after = c.read_whole.new.sources;
      given = c.in_ok-text.ensures.ok;
      refused = inr (record { spec = spec; read = rw c.deref.ensures.value at c.in_ok-spec.ensures.ok; table = table; of_spec = c.in_ok-tables.ensures.ok; refused = k });
    }))
    (rw c.in_ok-options.ensures.ok at c.print_noted.ensures.err)
