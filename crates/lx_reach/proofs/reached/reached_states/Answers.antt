use Rattle.std.proofs.Common.{◌≡◌, ◌<◌, ◌≤◌, length, slice_index, arith}
use Rattle.std.proofs.lemmas.List.{get_or_read}
use Rattle.lx_reach.proofs.Reaching.{closed_more, reach_closed}
use Rattle.lx_reach.proofs.reached.reached_states.Goals as goal

pub loop-place-preserved : goal.loop-place-preserved
loop-place-preserved c =
    let inv = c.loop-place.invariant in
    let states = c.loop-place.met.numbers.items in
    let inside : c.loop-place.place < length states = (let n = c.len.ensures in let t = c.loop-place-test.true in omega arith) in
    let is : c.index-state.result.now ≡ slice_index states c.loop-place.place = get_or_read states c.loop-place.place c.index-state.result.now inside c.index-state.ensures 0 in
    let after = c.in_ok-meet_targets.ensures in
    let p = closed_more c.args.tables.now.machine c.args.first c.args.end c.loop-place.met.places.items c.meet_targets.new.met.places.items states c.meet_targets.new.met.numbers.items
    c.loop-place.place c.index-state.result.now inv.met inside is inv.only inv.closed after.there after.kept after.only after.front in
    record {
      met = after.met;
      long = after.long;
      within = (let m = after.more in omega arith);
      starts = λ s start. after.kept s (inv.starts s start);
      only = p.0;
      closed = p.1;
    }

pub returns-clause-all : goal.returns-clause-all
returns-clause-all c =
    let inv = c.loop-place.invariant in
    let all : length c.loop-place.met.numbers.items ≤ c.loop-place.place = (let n = c.len.ensures in let t = c.loop-place-test.false in omega arith) in
    reach_closed c.args.tables.now.machine c.args.first c.args.end c.loop-place.met.numbers.items c.loop-place.met.places.items c.loop-place.place inv.met all inv.starts inv.closed
