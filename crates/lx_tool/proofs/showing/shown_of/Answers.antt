use Rattle.std.proofs.Common.{◌∙◌, inl, sym, ap, map}
use Rattle.std.proofs.lemmas.Result.{err_from_is_err_and}
use Rattle.lx_tool.proofs.showing.shown_of.Goals as goal

pub returns-in_err-tables-clause-err : goal.returns-in_err-tables-clause-err
returns-in_err-tables-clause-err c =
    let p = err_from_is_err_and c.from_residual.result c.from_residual.ensures.1 in
    rw (p.1, p.2) (inl (sym c.begins_as_tables.ensures ∙ c.if-not-begins_as_tables.false, c.in_err-tables.ensures.err))

pub returns-clause-ok : goal.returns-clause-ok
returns-clause-ok c =
    inl (sym c.begins_as_tables.ensures ∙ c.if-not-begins_as_tables.false, c.in_ok-tables.ensures.ok, ap (map (λ k. k.items)) c.new-names.ensures.items)
