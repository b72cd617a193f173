use Rattle.lx_scan.proofs.Stepping.{reads_on}
use Rattle.lx_scan.proofs.choice.last_accepted.Goals as goal

pub loop-i-preserved : goal.loop-i-preserved
loop-i-preserved c =
    let loop = c.loop-i in
    reads_on c.args.tables.now c.args.condition c.args.begin c.args.text.now loop.i loop.state.0 c.in-Some.next.0 loop.last c.latest-last.result
    c.loop-i-test.true c.in-Some.ensures.target c.in-Some.ensures.state c.latest-last.ensures loop.invariant
