use Rattle.std.proofs.Common.{◌∙◌, inr, sym}
use Rattle.std.proofs.lemmas.Result.{err_from_is_err_and}
use Rattle.std.proofs.lemmas.Simd.{map-map}
use Rattle.lx_rules.specs.Plain.{StartCondition}
use Rattle.lx_rules.specs.views.Conditions.{condition_view}
use Rattle.lx_rules.specs.views.Specs.{spec_view}
use Rattle.lx_tool.proofs.showing.shown_of_specification.Goals as goal

pub returns-in_err-spec-clause-err : goal.returns-in_err-spec-clause-err
returns-in_err-spec-clause-err c =
    let p = err_from_is_err_and c.from_residual.result c.from_residual.ensures.1 in
    rw (p.1, p.2) (inr (c.requires, c.in_err-spec.ensures.err))

pub returns-in_err-tables-clause-err : goal.returns-in_err-tables-clause-err
returns-in_err-tables-clause-err c =
    let p = err_from_is_err_and c.from_residual-in_err-tables.result c.from_residual-in_err-tables.ensures.1 in
    rw (p.1, p.2) (inr (c.requires, c.in_err-tables.ensures.err c.args.text.now c.in_ok-spec.ensures.ok))

pub returns-in_err-names-clause-err : goal.returns-in_err-names-clause-err
returns-in_err-names-clause-err c =
    let p = err_from_is_err_and c.from_residual-in_err-names.result c.from_residual-in_err-names.ensures.1 in
    rw (p.1, p.2) (inr (c.requires, tt))

pub returns-clause-ok : goal.returns-clause-ok
returns-clause-ok c =
    let names = (rw c.deref.ensures.value at c.in_ok-names.ensures) ∙ sym (map-map (λ (condition : StartCondition). condition.name) condition_view c.in_ok-spec.spec.conditions.items) in
    inr (c.requires, record { spec = spec_view c.in_ok-spec.spec; read = c.in_ok-spec.ensures.ok; of_spec = c.in_ok-tables.ensures.ok; names_are = names })
