use Rattle.std.proofs.Common.{◌+◌, ◌<◌, length, refl, sym, arith, subst}
use Rattle.std.proofs.lemmas.Option.{slice_get_read}
use Rattle.lx_auto.specs.RuleLists.{AreMatchedAt}
use Rattle.lx_auto.proofs.ListedRules.{none_listed, listed_more, unlisted_more, all_listed}
use Rattle.lx_auto.proofs.sets.all_matched.matched_from.Goals as goal

pub loop-i-init : goal.loop-i-init
loop-i-init c = λ rules total are none. none_listed rules c.args.marks.now c.args.first c.new-found.result.items c.new-found.ensures.items none

pub loop-i-preserved : goal.loop-i-preserved
loop-i-preserved c = λ rules total are none.
    let parts = c.args.parts.now in
    let i = c.loop-i.i in
    let part = c.index-parts-i.result in
    let inside : i < length parts = c.loop-i-test.true in
    let at = slice_get_read parts (length parts) i part refl inside c.index-parts-i.is in
    subst (λ l. AreMatchedAt rules c.args.marks.now (i + 1) l) (sym c.in_ok-push.ensures.ok)
    (listed_more c.args.marks.now rules parts total i part c.loop-i.found.items c.in_ok-matched.matched are inside at (λ r is. c.in_ok-matched.ensures.matched r is)
    (c.loop-i.invariant rules total are none) c.if-not-matched.false)

pub loop-i-preserved-then-not-matched : goal.loop-i-preserved-then-not-matched
loop-i-preserved-then-not-matched c = λ rules total are none.
    let parts = c.args.parts.now in
    let i = c.loop-i.i in
    let part = c.index-parts-i.result in
    let inside : i < length parts = c.loop-i-test.true in
    let at = slice_get_read parts (length parts) i part refl inside c.index-parts-i.is in
    unlisted_more c.args.marks.now rules parts total i part c.loop-i.found.items c.in_ok-matched.matched are inside at (λ r is. c.in_ok-matched.ensures.matched r is)
    (c.loop-i.invariant rules total are none) c.if-not-matched.true

pub returns : goal.returns
returns c = λ rules total are none.
    let long = are.long in
    let done = c.loop-i-test.false in
    all_listed rules c.args.marks.now c.loop-i.i c.loop-i.found.items (omega arith) (c.loop-i.invariant rules total are none)
