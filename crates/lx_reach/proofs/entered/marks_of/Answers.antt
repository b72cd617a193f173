use Rattle.std.proofs.Common.{◌≡◌, ◌∙◌, ◌++◌, ◌∷◌, [], true, false, length, slice_index, slice_index_or, take, sym, subst, ap, add-one}
use Rattle.std.proofs.lemmas.List.{take_all}
use Rattle.lx_reach.proofs.Entering.{mark, marks, marks_more, marks_long, marks_hold, marks_fail}
use Rattle.lx_reach.proofs.entered.marks_of.Goals as goal

pub loop-place-preserved : goal.loop-place-preserved
loop-place-preserved c =
    let places = c.args.places.now in
    let i = c.loop-place.place-index in
    c.in_ok-push.ensures.items ∙ ap (λ xs. xs ++ mark (slice_index places i) ∷ []) c.loop-place.invariant ∙ sym (marks_more places i c.loop-place-test.true) ∙ ap (λ k. marks (take k places)) (sym (add-one i))

pub returns-clause-long : goal.returns-clause-long
returns-clause-long c = ap (λ xs. length xs) c.loop-place.invariant ∙ ap (λ ws. length (marks ws)) (take_all _ c.args.places.now c.loop-place-test.false) ∙ marks_long c.args.places.now

pub returns-clause-holds : goal.returns-clause-holds
returns-clause-holds c = λ n h. marks_hold c.args.places.now n (subst (λ xs. slice_index_or xs n false ≡ true) (c.loop-place.invariant ∙ ap marks (take_all _ c.args.places.now c.loop-place-test.false)) h)

pub returns-clause-fails : goal.returns-clause-fails
returns-clause-fails c = λ n h. marks_fail c.args.places.now n (subst (λ xs. slice_index_or xs n false ≡ false) (c.loop-place.invariant ∙ ap marks (take_all _ c.args.places.now c.loop-place-test.false)) h)
