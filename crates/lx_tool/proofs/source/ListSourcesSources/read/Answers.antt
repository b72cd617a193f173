use Rattle.std.proofs.Common.{refl, sym, subst, map}
use Rattle.std.proofs.lemmas.Result.{err_from_is_err_and}
use Rattle.lx_piece.specs.Plans.{input_view}
use Rattle.lx_tool.specs.Sources.{IsFirstNamed, NoneIsNamed}
use Rattle.lx_tool.proofs.SourceLemmas.{not_none, none_more, first_named, none_at_all}
use Rattle.lx_tool.proofs.source.ListSourcesSources.read.Goals as goal

pub returns-in_err-make_input-clause-not_found : goal.returns-in_err-make_input-clause-not_found
returns-in_err-make_input-clause-not_found c = λ none.
    let cut = map (λ name. name.now) c.self.inside.cut.now in
    absurd (not_none cut c.self.inside.files.now c.args.name.now c.loop-file.file-index _ c.loop-file-test.true c.eq.result c.eq.ensures c.if-eq.true
    (subst (λ fs. NoneIsNamed fs c.args.name.now) (sym c.self.view_is) none))

pub returns-in_err-make_input-clause-not_read : goal.returns-in_err-make_input-clause-not_read
returns-in_err-make_input-clause-not_read c =
    let p = err_from_is_err_and c.from_residual.result c.from_residual.ensures.1 in
    λ e. absurd (let f = p.1 in let g = p.2 in cc)

pub returns-then-eq-clause-found : goal.returns-then-eq-clause-found
returns-then-eq-clause-found c =
    let cut = map (λ name. name.now) c.self.inside.cut.now in (
      refl,
      subst (λ fs. IsFirstNamed fs c.args.name.now (input_view c.in_ok-make_input.field-0)) c.self.view_is
          (first_named cut c.self.inside.files.now c.args.name.now c.loop-file.file-index _ c.loop-file-test.true c.eq.result c.eq.ensures (input_view c.in_ok-make_input.field-0) c.is_among.result
          c.if-eq.true c.loop-file.invariant c.in_ok-make_input.ensures c.is_among.ensures),
    )

pub returns-then-eq-clause-not_found : goal.returns-then-eq-clause-not_found
returns-then-eq-clause-not_found c = λ none.
    let cut = map (λ name. name.now) c.self.inside.cut.now in
    absurd (not_none cut c.self.inside.files.now c.args.name.now c.loop-file.file-index _ c.loop-file-test.true c.eq.result c.eq.ensures c.if-eq.true
    (subst (λ fs. NoneIsNamed fs c.args.name.now) (sym c.self.view_is) none))

pub loop-file-preserved : goal.loop-file-preserved
loop-file-preserved c =
    let cut = map (λ name. name.now) c.self.inside.cut.now in
    none_more cut c.self.inside.files.now c.args.name.now c.loop-file.file-index _ c.loop-file-test.true c.eq.result c.eq.ensures c.if-eq.false c.loop-file.invariant

pub returns-clause-not_read : goal.returns-clause-not_read
returns-clause-not_read c = λ _.
    let cut = map (λ name. name.now) c.self.inside.cut.now in
    subst (λ fs. NoneIsNamed fs c.args.name.now) c.self.view_is (none_at_all cut c.self.inside.files.now c.args.name.now c.loop-file.file-index c.loop-file-test.false c.loop-file.invariant)
