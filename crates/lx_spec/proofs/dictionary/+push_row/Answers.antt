use Rattle.std.proofs.Common.{◌≡◌, ◌∙◌, ◌++◌, map, ap, sym, inl, inr}
use Rattle.lx_ere.specs.declared.expr.Expr.{Expr}
use Rattle.lx_ere.specs.Regex.{regex_of}
use Rattle.lx_rules.specs.Names.{names_of}
use Rattle.lx_spec.specs.views.Sections.{raw_definition_view}
use Rattle.lx_spec.proofs.Rows.{row-joined}
use Rattle.lx_spec.proofs.dictionary.+push_row.Goals as goal

pub returns-in_ok-second-in-Then-clause-row : goal.returns-in_ok-second-in-Then-clause-row
returns-in_ok-second-in-Then-clause-row t c =
    let same : names_of (regex_of c.args.expr.now) ≡ names_of (regex_of c.in-Then.a.value) ++ names_of (regex_of c.in-Then.b.value) =
    elim c.in-Then.is [ inl e ↦ ap (λ (x : Expr). names_of (regex_of x)) e | inr e ↦ ap (λ (x : Expr). names_of (regex_of x)) e ] in
    let names : names_of (regex_of c.args.expr.now) ≡ names_of (regex_of c.deref-in-Then.result.now) ++ names_of (regex_of c.deref-in-Then-2.result.now) =
    same ∙ ap (λ (e : Expr). names_of (regex_of e) ++ names_of (regex_of c.in-Then.b.value)) (sym c.deref-in-Then.ensures)
    ∙ ap (λ (e : Expr). names_of (regex_of c.deref-in-Then.result.now) ++ names_of (regex_of e)) (sym c.deref-in-Then-2.ensures) in
    row-joined (map raw_definition_view c.args.index.now.definitions.now) (regex_of c.deref-in-Then.result.now) (regex_of c.deref-in-Then-2.result.now) (names_of (regex_of c.args.expr.now)) c.args.row.now.items c.push_row-in-Then.new.row.items
    c.push_row-in-Then-2.new.row.items names c.in_ok-first-in-Then.ensures.row c.in_ok-second-in-Then.ensures.row
