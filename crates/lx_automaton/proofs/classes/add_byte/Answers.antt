use Rattle.std.proofs.Common.{◌≡◌, ◌<◌, length, slice_index, arith, ◌∙◌}
use Rattle.std.proofs.lemmas.Grind.{get_or_default_zero}
use Rattle.lx_automaton.proofs.ClassSteps.{add_known, add_new}
use Rattle.lx_automaton.proofs.classes.add_byte.Goals as goal

pub returns-in-Some : goal.returns-in-Some
returns-in-Some c =
    let b = c.in-Some.earlier in
    let l : b < c.args.byte = c.in-Some.ensures.below in
    let has = c.requires.numbers.each b l in
    let long = c.requires.numbers.long in
    let k : c.index-number.result.now ≡ slice_index c.args.numbers.now.items b =
    c.index-number.ensures ∙ get_or_default_zero c.args.numbers.now.items b c.index-number.result.now (omega arith) in
    rw c.in_ok-push.ensures.items (add_known _ _ _ _ _ c.requires.numbers (rw k has.below) (rw (k, ← c.in-Some.ensures.same) has.columns))

pub returns-then-number-len : goal.returns-then-number-len
returns-then-number-len c =
    let long = c.args.representatives.now.ok.0 in
    let is = rw c.deref.ensures.value at c.in_ok-number.ensures in
    let l : c.in_ok-number.number < length c.args.representatives.now.items = omega arith in
    rw c.in_ok-push-2.ensures.items (add_known _ _ _ _ _ c.requires.numbers l (rw (← c.class-class.ensures.class) (is.found l)))

pub returns : goal.returns
returns c =
    let long = c.args.representatives.now.ok.0 in
    let is = rw c.deref.ensures.value at c.in_ok-number.ensures in
    let e : c.in_ok-number.number ≡ length c.args.representatives.now.items = (let m = is.at_most in omega arith) in
    rw (c.in_ok-push-2.ensures.items, c.in_ok-push-3.ensures.items, e) (add_new _ _ _ _ _ c.requires.numbers c.class-class.ensures.class c.class-class.ensures.below (is.fresh e))
