use Rattle.std.proofs.Common.{◌≡◌, ◌-◌}
use Rattle.lx_piece.specs.Waiting.{queued}
use Rattle.lx_piece.specs.Plans.{files_of}
use Rattle.lx_piece.proofs.Handing.{TookFiles}
use Rattle.lx_piece.proofs.waiting.take_waiting.Given as goal

abbrev pub invariant-loop-file : goal.invariant-loop-file
invariant-loop-file g l =
    record {
      plan : g.T.Taker.plan l.taker ≡ g.T.Taker.plan l.fn.taker;
      follows : g.T.Taker.follows l.fn.taker l.taker;
      took : TookFiles (g.T.Taker.plan l.fn.taker) l.from (queued l.fn.waiting.items) l.file (queued l.waiting.items) (g.T.Taker.turn l.taker);
    }

abbrev pub decreases-loop-file : goal.decreases-loop-file
decreases-loop-file g l = files_of (g.T.Taker.plan l.fn.taker) - l.file
