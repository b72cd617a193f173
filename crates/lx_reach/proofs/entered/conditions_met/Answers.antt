use Rattle.std.proofs.Common.{◌≡◌, ◌<◌, ◌≤◌, length, slice_index, arith, sym, subst, inl, inr}
use Rattle.std.proofs.lemmas.List.{get_or_read}
use Rattle.lx_reach.specs.Entered.{IsEntered, Initial}
use Rattle.lx_reach.proofs.Entering.{entered_more, all_entered}
use Rattle.lx_reach.proofs.entered.conditions_met.Goals as goal

pub loop-place-init : goal.loop-place-init
loop-place-init c = record {
  met = c.in_ok-meet.ensures.met;
  long = (let a = c.in_ok-meet.ensures.long in let b = c.in_ok-met.ensures.long in let n = c.conditions.ensures.count in omega arith);
  within = omega arith;
  start = c.in_ok-meet.ensures.there;
  only = λ s h. elim (c.in_ok-meet.ensures.only s h) [
    | inl k ↦ absurd (k (c.in_ok-met.ensures.none s))
    | inr e ↦ subst (λ x. IsEntered c.args.tables.now x) (sym e) Initial
  ];
  closed = λ i r h. absurd (omega arith);
}

pub chosen_in-requires : goal.chosen_in-requires
chosen_in-requires c =
    let inv = c.loop-place.invariant in
    let met = c.loop-place.met.numbers.items in
    let inside : c.loop-place.place < length met = (let n = c.len.ensures in let t = c.loop-place-test.true in omega arith) in
    let is : c.index.result.now ≡ slice_index met c.loop-place.place = get_or_read met c.loop-place.place c.index.result.now inside c.index.ensures 0 in
    let below = inv.met.below c.loop-place.place inside in
    let long = inv.long in
    omega arith

pub overflow_cast-condition : goal.overflow_cast-condition
overflow_cast-condition c =
    let inv = c.loop-place.invariant in
    let met = c.loop-place.met.numbers.items in
    let inside : c.loop-place.place < length met = (let n = c.len.ensures in let t = c.loop-place-test.true in omega arith) in
    let is : c.index.result.now ≡ slice_index met c.loop-place.place = get_or_read met c.loop-place.place c.index.result.now inside c.index.ensures 0 in
    let below = inv.met.below c.loop-place.place inside in
    let long = inv.long in
    let few = c.conditions.ensures.table.machine.few in
    omega arith

pub meet_next-requires-clause-condition : goal.meet_next-requires-clause-condition
meet_next-requires-clause-condition c =
    let inv = c.loop-place.invariant in
    let met = c.loop-place.met.numbers.items in
    let inside : c.loop-place.place < length met = (let n = c.len.ensures in let t = c.loop-place-test.true in omega arith) in
    let is : c.index.result.now ≡ slice_index met c.loop-place.place = get_or_read met c.loop-place.place c.index.result.now inside c.index.ensures 0 in
    let below = inv.met.below c.loop-place.place inside in
    let long = inv.long in
    omega arith

pub loop-place-preserved : goal.loop-place-preserved
loop-place-preserved c =
    let inv = c.loop-place.invariant in
    let met = c.loop-place.met.numbers.items in
    let inside : c.loop-place.place < length met = (let n = c.len.ensures in let t = c.loop-place-test.true in omega arith) in
    let is : c.index.result.now ≡ slice_index met c.loop-place.place = get_or_read met c.loop-place.place c.index.result.now inside c.index.ensures 0 in
    let after = rw c.deref.ensures.value at c.in_ok-meet_next.ensures in
    let p = entered_more c.args.tables.now c.loop-place.met.places.items c.meet_next.new.met.places.items met c.meet_next.new.met.numbers.items c.in_ok-flags.flags.items
    c.loop-place.place c.index.result.now inv.met inside is c.in_ok-flags.ensures inv.only inv.closed after.there after.kept after.only after.front in
    record {
      met = after.met;
      long = after.long;
      within = (let m = after.more in omega arith);
      start = after.kept 0 inv.start;
      only = p.0;
      closed = p.1;
    }

pub returns-clause-all : goal.returns-clause-all
returns-clause-all c =
    let inv = c.loop-place.invariant in
    let all : length c.loop-place.met.numbers.items ≤ c.loop-place.place = (let n = c.len.ensures in let t = c.loop-place-test.false in omega arith) in
    all_entered c.args.tables.now c.loop-place.met.numbers.items c.loop-place.met.places.items c.loop-place.place inv.met all inv.start inv.closed
