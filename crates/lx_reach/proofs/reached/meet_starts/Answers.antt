use Rattle.std.proofs.Common.{◌∙◌, arith}
use Rattle.lx_reach.proofs.Reaching.{starts_more}
use Rattle.lx_reach.proofs.reached.meet_starts.Goals as goal

pub loop-condition-preserved : goal.loop-condition-preserved
loop-condition-preserved c =
    let inv = c.loop-condition.invariant in
    let p = starts_more c.args.tables.now.machine c.loop-condition.met.places.items c.meet.new.met.places.items c.meet-in-loop-condition.new.met.places.items
    c.args.first c.args.end c.loop-condition.condition c.start.result.0 c.start-in-loop-condition.result.0 (let t = c.loop-condition-test.true in omega arith) (let t = c.loop-condition-test.true in omega arith) c.start.ensures.start c.start-in-loop-condition.ensures.start
    inv.there inv.only c.in_ok-meet.ensures.there c.in_ok-meet.ensures.kept c.in_ok-meet.ensures.only
    c.in_ok-meet-2.ensures.there c.in_ok-meet-2.ensures.kept c.in_ok-meet-2.ensures.only in
    record {
      met = c.in_ok-meet-2.ensures.met;
      long = c.in_ok-meet-2.ensures.long ∙ (c.in_ok-meet.ensures.long ∙ inv.long);
      there = p.0;
      only = p.1;
    }
