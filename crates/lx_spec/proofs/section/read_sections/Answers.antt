use Rattle.std.proofs.Common.{◌+◌, length, sym, ap, subst, ◌∙◌, arith}
use Rattle.std.specs.Option.{option_map}
use Rattle.std.proofs.lemmas.Result.{err_from_is_err_and}
use Rattle.lx_spec.specs.Sections as plain
use Rattle.lx_spec.specs.Sections.{Gives}
use Rattle.lx_spec.specs.views.Sections.{sections_view}
use Rattle.lx_spec.specs.views.Places.{place_view}
use Rattle.lx_spec.proofs.section.read_sections.Goals as goal

pub returns-in_err-more : goal.returns-in_err-more
returns-in_err-more c =
    let p = err_from_is_err_and c.from_residual-in_err-more.result c.from_residual-in_err-more.ensures.1 in
    rw (p.1, p.2) (λ h. sym c.loop-line.invariant.same ∙ ap (plain.sections_behind (sections_view c.loop-line.sections) (place_view c.loop-line.place) c.loop-line.number) c.in-Some.ensures.steps ∙ c.in_err-more.ensures c.next.new.self h)

pub returns-in-None : goal.returns-in-None
returns-in-None c =
    sym c.loop-line.invariant.same ∙ ap (plain.sections_behind (sections_view c.loop-line.sections) (place_view c.loop-line.place) c.loop-line.number) c.in-Some.ensures.steps
    ∙ c.in_ok-more.ensures c.next.new.self ∙ ap (λ o. plain.continued (option_map place_view o) (sections_view c.in_ok-more.more) (c.loop-line.number + 1) c.next.new.self) c.in-None.is

pub loop-line-preserved : goal.loop-line-preserved
loop-line-preserved c = record {
  same = sym (sym c.loop-line.invariant.same ∙ ap (plain.sections_behind (sections_view c.loop-line.sections) (place_view c.loop-line.place) c.loop-line.number) c.in-Some.ensures.steps
      ∙ c.in_ok-more.ensures c.next.new.self ∙ ap (λ o. plain.continued (option_map place_view o) (sections_view c.in_ok-more.more) (c.loop-line.number + 1) c.next.new.self) c.in-Some-next.is);
  counted = omega arith;
  few = omega (arith, ap length c.in-Some.ensures.steps, c.loop-line.invariant.few);
}

pub returns : goal.returns
returns c = subst (Gives sections_view c.finish_sections.result)
    (sym (sym c.loop-line.invariant.same ∙ ap (plain.sections_behind (sections_view c.loop-line.sections) (place_view c.loop-line.place) c.loop-line.number) c.in_default.ensures.steps.0))
    (c.finish_sections.ensures c.loop-line.number)
