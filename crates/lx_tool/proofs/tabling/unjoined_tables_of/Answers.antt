use Rattle.std.proofs.lemmas.Result.{err_from_is_err_and}
use Rattle.lx_rules.specs.views.Specs.{spec_view}
use Rattle.lx_tool.proofs.Tabled.{too_large}
use Rattle.lx_tool.proofs.tabling.unjoined_tables_of.Goals as goal

pub returns-in_err-automaton-clause-err : goal.returns-in_err-automaton-clause-err
returns-in_err-automaton-clause-err c =
    let p = err_from_is_err_and c.from_residual.result c.from_residual.ensures.1 in
    rw (p.1, p.2) (λ text read. too_large text (spec_view c.args.spec.now) read c.in_err-automaton.field-0.0 c.in_err-automaton.ensures.positions c.in_err-automaton.ensures.sets)
