use Rattle.std.proofs.Common.{◌≡◌, ◌∷◌, sym, ◌∙◌}
use Rattle.std.proofs.lemmas.Result.{err_from_is_err_and}
use Rattle.lx_spec.specs.Bytes.{words_of}
use Rattle.lx_spec.specs.views.Sections.{sections_view}
use Rattle.lx_spec.proofs.Words.{next_word-some}
use Rattle.lx_spec.proofs.Declaring.{start_conditions_stop}
use Rattle.lx_spec.proofs.section.with_start_conditions.Goals as goal

pub returns-in_err-sections : goal.returns-in_err-sections
returns-in_err-sections c =
    let p = err_from_is_err_and c.from_residual.result c.from_residual.ensures.1 in
    let e : words_of c.loop-name.rest.now ≡ c.in-Some.name.now ∷ words_of c.in-Some.behind.now = next_word-some c.loop-name.rest.now c.in-Some.name.now c.in-Some.behind.now (sym c.in-Some.ensures) in
    rw (p.1, p.2) (λ h. sym c.loop-name.invariant ∙ start_conditions_stop (sections_view c.loop-name.sections) c.args.number c.args.exclusive (words_of c.loop-name.rest.now) c.in-Some.name.now (words_of c.in-Some.behind.now) _ e (c.in_err-sections.ensures h))
