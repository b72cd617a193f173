use Rattle.std.proofs.Common.{◌≡◌, [], nat_eq, length, sym, ◌∙◌, ap}
use Rattle.std.specs.Prelude.{Result, Err}
use Rattle.std.proofs.lemmas.Bool.{true≢false}
use Rattle.std.proofs.lemmas.Result.{err_from_is_err_and}
use Rattle.lx_ere.specs.declared.expr.Expr.{Expr}
use Rattle.lx_ere.specs.declared.fault.EreFault.{EreFault}
use Rattle.lx_ere.specs.declared.fault.EreFault.TheVariants.{NoReading}
use Rattle.lx_ere.specs.Regex.{regex_of}
use Rattle.lx_ere.proofs.ReadLemmas.{one_alternation, reads_of}
use Rattle.lx_ere.proofs.read.read_substitute.Goals as goal

pub returns-in_err-expr-clause-refused : goal.returns-in_err-expr-clause-refused
returns-in_err-expr-clause-refused c =
    let p = err_from_is_err_and c.from_residual.result c.from_residual.ensures.1 in
    λ refused tree substitute.
    let is : ◌≡◌ {A = Result Expr EreFault} (Err (p.0)) (Err NoReading) = sym p.1 ∙ refused in
    let same : p.0 ≡ NoReading = cc in
    c.in_err-expr.ensures.refused (ap Err (sym p.2 ∙ same)) tree [] (reads_of c.args.text.now tree substitute)

pub returns-else-is_empty-clause-refused : goal.returns-else-is_empty-clause-refused
returns-else-is_empty-clause-refused c = λ _ tree substitute.
    let same = one_alternation c.args.text.now tree (regex_of c.in_ok-expr.expr) [] c.in_ok-expr.ending.now (reads_of c.args.text.now tree substitute) c.in_ok-expr.ensures.reading in
    let none : length c.in_ok-expr.ending.now ≡ 0 = ap length (sym same.1) in
    true≢false (sym (ap (λ n. nat_eq n 0) none) ∙ (sym c.is_empty.ensures ∙ c.if-is_empty.false))
