use Rattle.std.proofs.Common.{◌≡◌, ◌+◌, ◌<◌, ◌≤◌, ◌++◌, length, take, drop, min, refl, sym, ◌∙◌, arith, subst}
use Rattle.std.proofs.lemmas.Option.{slice_get_read}
use Rattle.lx_auto.specs.Members.{places_from}
use Rattle.lx_auto.specs.Following.{FollowsMarked, AreReadBelow, IsFirstMatchedBelow}
use Rattle.lx_auto.proofs.StepAll.{step_all, matched_all}
use Rattle.lx_auto.proofs.BareMembers.{unmarked_in}
use Rattle.lx_auto.proofs.BareRules.{left_reads, left_matched}
use Rattle.lx_auto.proofs.Followed.{none_read_below}
use Rattle.lx_auto.proofs.PlacesRead.{next_all, no_places}
use Rattle.lx_auto.proofs.sets.set_steps.step_rules.Goals as goal

pub rules-init : goal.rules-init
rules-init c =
    let marks = c.args.marks.now in
    record {
      within = omega arith;
      long = refl;
      reads = λ spec rules numbered are clear. none_read_below (FollowsMarked marks) rules c.args.reads.now.items clear;
      matched = λ spec rules numbered are j before. absurd (omega arith);
      next = λ spec rules numbered are clear empty. empty ∙ sym (no_places c.args.reads.now.items clear);
      bare = record { within = omega arith; before = λ j before. absurd (omega arith); behind = λ some. omega arith };
    }

pub step_rule-requires-clause-bare : goal.step_rule-requires-clause-bare
step_rule-requires-clause-bare c = unmarked_in c.args.set.now c.args.marks.now c.bare_at-bare.result.from c.bare_at-bare.result.until c.requires.members c.bare_at-bare.ensures.absent

pub rules-preserved : goal.rules-preserved
rules-preserved c =
    let marks = c.args.marks.now in
    let parts = c.args.parts.now in
    let total = length c.args.reads.now.items in
    let i = c.rules.i in
    let part = c.index-parts-i.result in
    let inside : i < length parts = c.rules-test.true in
    let at = slice_get_read parts (length parts) i part refl inside c.index-parts-i.is in
    let more = c.push_read.new.next.items in
    let added = subst (λ reads. part.base ≤ length reads → more ≡ c.rules.next.items ++ places_from part.base (drop part.base (take (min (part.base + part.count + 1) (length reads)) reads)))
    c.deref.ensures.value (λ begins. c.in_ok-push_read.ensures begins) in
    record {
      within = omega arith;
      long = c.in_ok-matched.ensures.long ∙ c.rules.invariant.long;
      reads = λ spec rules numbered are clear.
          step_all c.args.marks.now spec rules parts total i part c.rules.reads.items c.step_rule.new.reads.items numbered are inside at c.rules.invariant.long
          (λ r is room bare. c.in_ok-matched.ensures.reads r is room bare) (c.rules.invariant.reads spec rules numbered are clear);
      matched = λ spec rules numbered are.
          subst (λ f. IsFirstMatchedBelow rules c.args.marks.now (i + 1) f) (sym c.first_matched-found.ensures)
          (matched_all c.args.marks.now rules parts total i part c.rules.found c.in_ok-matched.matched are inside at
          (λ r is. c.in_ok-matched.ensures.matched r is) (c.rules.invariant.matched spec rules numbered are));
      next = λ spec rules numbered are clear empty.
          next_all marks spec rules parts total i part c.rules.reads.items c.step_rule.new.reads.items c.rules.next.items c.push_read.new.next.items numbered are inside at
          c.rules.invariant.long (c.in_ok-matched.ensures.long ∙ c.rules.invariant.long)
          (λ r is room bare. c.in_ok-matched.ensures.reads r is room bare) (c.rules.invariant.reads spec rules numbered are clear)
          (c.rules.invariant.next spec rules numbered are clear empty) added;
      bare = c.bare_at-bare.ensures.bare;
    }

-- the rules that are left out
pub rules-preserved-then-untouched-gt0 : goal.rules-preserved-then-untouched-gt0
rules-preserved-then-untouched-gt0 c =
    let marks = c.args.marks.now in
    let parts = c.args.parts.now in
    let total = length c.args.reads.now.items in
    let i = c.rules.i in
    let j = i + c.untouched_count-untouched.result in
    let bare = c.bare_at-bare.result in
    let first = c.index-parts-i.result in
    let inside : i < length parts = c.rules-test.true in
    let some = c.if-untouched-gt0.true in
    let at = slice_get_read parts (length parts) i first refl inside c.index-parts-i.is in
    let behind = c.untouched_count-untouched.ensures.bare some in
    let few = c.untouched_count-untouched.ensures.within in
    let order : i ≤ j = omega arith in
    let unmarked = unmarked_in c.args.set.now marks bare.from bare.until c.requires.members c.bare_at-bare.ensures.absent in
    record {
      within = few;
      long = c.rules.invariant.long;
      reads = λ spec rules numbered are clear.
          left_reads marks spec rules parts total i j bare.from bare.until first numbered are inside at c.bare_at-bare.ensures.from few behind unmarked
          c.rules.reads.items (c.rules.invariant.reads spec rules numbered are clear) order;
      matched = λ spec rules numbered are.
          left_matched marks spec rules parts total i j bare.from bare.until first numbered are inside at c.bare_at-bare.ensures.from few behind unmarked
          c.rules.found (c.rules.invariant.matched spec rules numbered are) order;
      next = c.rules.invariant.next;
      bare = c.bare_at-bare.ensures.bare;
    }

pub returns-clause-reads : goal.returns-clause-reads
returns-clause-reads c = λ spec rules numbered are clear.
    let long = are.long in
    let within = c.rules.invariant.within in
    let done = c.rules-test.false in
    let all : c.rules.i ≡ length rules = omega arith in
    subst (λ n. AreReadBelow (FollowsMarked c.args.marks.now) rules n c.rules.reads.items) all (c.rules.invariant.reads spec rules numbered are clear)

pub returns-clause-matched : goal.returns-clause-matched
returns-clause-matched c = λ spec rules numbered are.
    let long = are.long in
    let within = c.rules.invariant.within in
    let done = c.rules-test.false in
    let all : c.rules.i ≡ length rules = omega arith in
    subst (λ n. IsFirstMatchedBelow rules c.args.marks.now n c.rules.found) all (c.rules.invariant.matched spec rules numbered are)

pub returns-clause-next : goal.returns-clause-next
returns-clause-next c = λ spec rules numbered are clear empty. c.rules.invariant.next spec rules numbered are clear empty
