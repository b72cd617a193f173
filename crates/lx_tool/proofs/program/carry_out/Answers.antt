use Rattle.std.proofs.Common.{inl}
use Rattle.std.proofs.lemmas.Result.{err_from_is_err_and}
use Rattle.lx_tool.proofs.Obeyed.{explain_refused, stored_refused}
use Rattle.lx_tool.proofs.program.carry_out.Goals as goal

pub returns-in_err-list_stored-in-Stored-clause-err :
    goal.returns-in_err-list_stored-in-Stored-clause-err
returns-in_err-list_stored-in-Stored-clause-err g c =
    let p = err_from_is_err_and c.from_residual.result c.from_residual.ensures.1 in
    rw (p.1, p.2, c.in-Stored.is)
    (λ low. inl (stored_refused g.S.Sources.gives c.args.sources.now (g.O.Write.contents c.args.out.now) (g.O.Write.contents c.list_stored.new.out) c.in_err-list_stored-in-Stored.field-0.0 c.in_err-list_stored-in-Stored.ensures.err low))

pub returns-in_err-generate_named-in-Gen-clause-err :
    goal.returns-in_err-generate_named-in-Gen-clause-err
returns-in_err-generate_named-in-Gen-clause-err g c =
    let p = err_from_is_err_and c.from_residual-in_err-generate_named-in-Gen.result c.from_residual-in_err-generate_named-in-Gen.ensures.1 in
    rw (p.1, p.2, c.in-Gen.is) (λ low. inl (c.in_err-generate_named-in-Gen.ensures.err low))

pub returns-in_err-upgrade_named-in-Up-clause-err :
    goal.returns-in_err-upgrade_named-in-Up-clause-err
returns-in_err-upgrade_named-in-Up-clause-err g c =
    let p = err_from_is_err_and c.from_residual-in_err-upgrade_named-in-Up.result c.from_residual-in_err-upgrade_named-in-Up.ensures.1 in
    rw (p.1, p.2, c.in-Up.is) (λ low. inl (c.in_err-upgrade_named-in-Up.ensures.err low))

pub returns-in_err-check_named-in-Check-clause-err :
    goal.returns-in_err-check_named-in-Check-clause-err
returns-in_err-check_named-in-Check-clause-err g c =
    let p = err_from_is_err_and c.from_residual-in_err-check_named-in-Check.result c.from_residual-in_err-check_named-in-Check.ensures.1 in
    rw (p.1, p.2, c.in-Check.is) (λ low. inl (c.in_err-check_named-in-Check.ensures.err low))

pub returns-in_err-explain_named-in-Explain-clause-err :
    goal.returns-in_err-explain_named-in-Explain-clause-err
returns-in_err-explain_named-in-Explain-clause-err g c =
    let p = err_from_is_err_and c.from_residual-in_err-explain_named-in-Explain.result c.from_residual-in_err-explain_named-in-Explain.ensures.1 in
    rw (p.1, p.2, c.in-Explain.is)
    (λ low. inl (explain_refused g.S.Sources.gives c.args.sources.now (g.O.Write.contents c.args.out.now) (g.O.Write.contents c.explain_named.new.out) _ c.in_err-explain_named-in-Explain.field-0.0 c.in_err-explain_named-in-Explain.ensures.err low))

pub returns-in_err-show_named-in-Show-clause-err :
    goal.returns-in_err-show_named-in-Show-clause-err
returns-in_err-show_named-in-Show-clause-err g c =
    let p = err_from_is_err_and c.from_residual-in_err-show_named-in-Show.result c.from_residual-in_err-show_named-in-Show.ensures.1 in
    rw (p.1, p.2, c.in-Show.is) (λ low. inl (c.in_err-show_named-in-Show.ensures.err low))

pub returns-in_err-import_named-in-Import-clause-err :
    goal.returns-in_err-import_named-in-Import-clause-err
returns-in_err-import_named-in-Import-clause-err g c =
    let p = err_from_is_err_and c.from_residual-in_err-import_named-in-Import.result c.from_residual-in_err-import_named-in-Import.ensures.1 in
    rw (p.1, p.2, c.in-Import.is) (λ low. inl (c.in_err-import_named-in-Import.ensures.err low))

pub returns-in-Run-clause-ok : goal.returns-in-Run-clause-ok
returns-in-Run-clause-ok g c = rw c.in-Run.is c.list_by_rules_of.ensures.ok

pub returns-in-Scan-clause-ok : goal.returns-in-Scan-clause-ok
returns-in-Scan-clause-ok g c = rw c.in-Scan.is c.list_by_tables_of.ensures.ok
