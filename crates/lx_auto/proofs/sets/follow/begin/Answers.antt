use Rattle.std.proofs.Common.{◌≡◌, ℕ, ◌<◌, false, length, refl, sym, ◌∙◌, ap, arith, subst}
use Rattle.std.proofs.lemmas.Option.{slice_get_read}
use Rattle.lx_auto.specs.Marking.{flag}
use Rattle.lx_auto.specs.Members.{places_from}
use Rattle.lx_auto.specs.Sets.{AreFirst}
use Rattle.lx_auto.specs.Following.{BeginsWith, AreReadBelow}
use Rattle.lx_auto.proofs.StepAll.{begin_all}
use Rattle.lx_auto.proofs.SetFollowed.{firsts, place_below}
use Rattle.lx_auto.proofs.sets.follow.begin.Goals as goal

pub loop-i-preserved : goal.loop-i-preserved
loop-i-preserved c =
    let parts = c.args.parts.now in
    let total = c.args.total in
    let i = c.loop-i.i in
    let part = c.index-parts-i.result in
    let inside : i < length parts = c.loop-i-test.true in
    let at = slice_get_read parts (length parts) i part refl inside c.index-parts-i.is in
    let marks = c.deref.result.now in
    let clear : (q : ℕ) → flag marks q ≡ false = λ q. ap (λ m. flag m q) c.deref.ensures.value ∙ c.in_ok-marks.ensures.clear q in
    record {
      long = c.in_ok-begin_rule.ensures.long ∙ c.loop-i.invariant.long;
      reads = λ spec condition begin rules numbered are active.
          begin_all spec condition begin rules parts total i part c.args.active.now marks c.loop-i.reads.items c.begin_rule.new.reads.items numbered are inside at
          c.loop-i.invariant.long active clear
          (λ f. c.in_ok-begin_rule.ensures.inactive (c.flag.ensures ∙ f))
          (λ t r is room bare. c.in_ok-begin_rule.ensures.active (c.flag.ensures ∙ t) r is room bare)
          (c.loop-i.invariant.reads spec condition begin rules numbered are active);
    }

pub returns : goal.returns
returns c = λ spec condition begin rules numbered are active.
    let long = are.long in
    let all : c.loop-i.i ≡ length rules = omega arith in
    let places = c.in_ok-first.ensures ∙ ap (λ l. places_from 0 l) c.deref-2.ensures.value in
    subst (λ l. AreFirst spec rules condition begin l) (sym places)
    (firsts spec condition begin rules c.loop-i.reads.items (λ i r at. place_below rules i r at)
    (subst (λ n. AreReadBelow (BeginsWith spec condition begin) rules n c.loop-i.reads.items) all
    (c.loop-i.invariant.reads spec condition begin rules numbered are active)))
