use Rattle.std.proofs.Common.{arith}
use Rattle.lx_tool.proofs.StreamedFiles.{takes_more, takes_none}
use Rattle.lx_tool.proofs.reading.read_in_blocks.Goals as goal
use Rattle.lx_tool.proofs.reading.read_in_blocks.Goals.{else-loop-test, then-loop-test+in_ok-take_on+in-Failed}

pub loop-init : goal.loop-init
loop-init g c =
    let long = c.in-Ok.ensures.len in
    record {
      taken = takes_none g.B.BlockTaker.takes g.met.B.BlockTaker.takes_nothing (g.R.Read.remaining c.args.reader.now) c.args.taker.now;
      room = omega (arith, long);
    }

pub returns-in-End-clause-taken : goal.returns-in-End-clause-taken
returns-in-End-clause-taken g c =
    let left = g.R.Read.remaining in
    takes_more g.B.BlockTaker.takes g.met.B.BlockTaker.takes_on (left c.args.reader.now) (left c.loop.reader) (left c.take_on.new.reader) c.args.taker.now c.loop.taker c.take_on.new.taker c.loop.invariant.taken c.in_ok-take_on.ensures.taken

pub loop-preserved : goal.loop-preserved
loop-preserved g c =
    let left = g.R.Read.remaining in
    let room = c.take_on.ensures.room in
    let before = c.loop.invariant.room in
    record {
      taken = takes_more g.B.BlockTaker.takes g.met.B.BlockTaker.takes_on (left c.args.reader.now) (left c.loop.reader) (left c.take_on.new.reader) c.args.taker.now c.loop.taker c.take_on.new.taker c.loop.invariant.taken c.in_ok-take_on.ensures.taken;
      room = omega (arith, room, before);
    }

pub returns-clause-taken : goal.returns-clause-taken
returns-clause-taken g c =
    let left = g.R.Read.remaining in
    elim c.loop-test.branch [
      | else-loop-test w ↦ rw (w.reader-is, w.taker-is) c.loop.invariant.taken
      | then-loop-test+in_ok-take_on+in-Failed w ↦
          rw (w.reader-is, w.taker-is)
          (takes_more g.B.BlockTaker.takes g.met.B.BlockTaker.takes_on (left c.args.reader.now) (left c.loop.reader) (left w.take_on.new.reader) c.args.taker.now c.loop.taker w.take_on.new.taker c.loop.invariant.taken w.in_ok-take_on.ensures.taken)
    ]

pub returns-in-End-clause-end : goal.returns-in-End-clause-end
returns-in-End-clause-end g c = λ _. c.in_ok-take_on.ensures.end c.in-End.is
