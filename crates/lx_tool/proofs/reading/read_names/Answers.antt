use Rattle.std.proofs.Common.{sym, subst, arith}
use Rattle.std.specs.Io.KnownBytes.{Consumes}
use Rattle.lx_tool.proofs.ReadOn.{reads_nothing, reads_on}
use Rattle.lx_tool.proofs.reading.read_names.Goals as goal
use Rattle.lx_tool.proofs.reading.read_names.Goals.{else-loop-test, then-loop-test+in_ok-read_on+in-Failed}

pub loop-init : goal.loop-init
loop-init g c =
    let start = g.R.Read.remaining c.args.reader.now in
    let long = c.in_ok-chunk.ensures.len in
    record {
      bytes = subst (λ xs. Consumes start start xs) (sym c.new-bytes.ensures.items) (reads_nothing start);
      room = omega (arith, long);
      count = omega arith;
    }

pub returns-in-End-clause-bytes : goal.returns-in-End-clause-bytes
returns-in-End-clause-bytes g c =
    let left = g.R.Read.remaining in
    reads_on (left c.args.reader.now) (left c.loop.reader) (left c.read_on.new.reader) c.loop.bytes.items c.read_on.new.bytes.items c.loop.invariant.bytes c.in_ok-read_on.ensures.bytes

pub returns-then-count-most-clause-bytes : goal.returns-then-count-most-clause-bytes
returns-then-count-most-clause-bytes g c =
    let left = g.R.Read.remaining in
    reads_on (left c.args.reader.now) (left c.loop.reader) (left c.read_on.new.reader) c.loop.bytes.items c.read_on.new.bytes.items c.loop.invariant.bytes c.in_ok-read_on.ensures.bytes

pub loop-preserved : goal.loop-preserved
loop-preserved g c =
    let left = g.R.Read.remaining in
    record {
      bytes = reads_on (left c.args.reader.now) (left c.loop.reader) (left c.read_on.new.reader) c.loop.bytes.items c.read_on.new.bytes.items c.loop.invariant.bytes c.in_ok-read_on.ensures.bytes;
      room = c.loop.invariant.room;
      count = rw c.deref.ensures.value at c.count_separators-count.ensures;
    }

pub returns-clause-bytes : goal.returns-clause-bytes
returns-clause-bytes g c =
    let left = g.R.Read.remaining in
    elim c.loop-test.branch [
      | else-loop-test w ↦ rw (w.reader-is, w.bytes-is) c.loop.invariant.bytes
      | then-loop-test+in_ok-read_on+in-Failed w ↦
          rw (w.reader-is, w.bytes-is)
          (reads_on (left c.args.reader.now) (left c.loop.reader) (left w.read_on.new.reader) c.loop.bytes.items w.read_on.new.bytes.items c.loop.invariant.bytes w.in_ok-read_on.ensures.bytes)
    ]
