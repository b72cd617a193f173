use Rattle.std.proofs.Common.{◌≡◌, ◌<◌, ◌≤◌, length, slice_index, arith}
use Rattle.std.proofs.lemmas.List.{get_or_read}
use Rattle.lx_reach.proofs.Reaching.{targets_more, are_targets}
use Rattle.lx_reach.proofs.reached.targets_of.Goals as goal

pub loop-place-preserved : goal.loop-place-preserved
loop-place-preserved c =
    let inv = c.loop-place.invariant in
    let states = c.args.from.now.numbers.items in
    let inside : c.loop-place.place < length states = (let t = c.loop-place-test.true in omega arith) in
    let is : c.index.result.now ≡ slice_index states c.loop-place.place = get_or_read states c.loop-place.place c.index.result.now inside c.index.ensures 0 in
    let after = c.in_ok-meet_targets.ensures in
    let p = targets_more c.args.tables.now.machine c.args.from.now.places.items c.loop-place.met.places.items c.meet_targets.new.met.places.items states
    c.loop-place.place c.index.result.now c.requires.met inside is inv.only inv.all after.there after.kept after.only in
    record {
      met = after.met;
      long = after.long;
      only = p.0;
      all = p.1;
    }

pub returns-clause-are : goal.returns-clause-are
returns-clause-are c =
    let inv = c.loop-place.invariant in
    let all : length c.args.from.now.numbers.items ≤ c.loop-place.place = (let t = c.loop-place-test.false in omega arith) in
    are_targets c.args.tables.now.machine c.args.from.now.places.items c.loop-place.met.places.items c.args.from.now.numbers.items c.loop-place.place c.requires.met all inv.only inv.all
