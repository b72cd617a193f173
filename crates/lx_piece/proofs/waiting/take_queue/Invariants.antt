use Rattle.std.proofs.Common.{◌≡◌, length}
use Rattle.lx_piece.proofs.Handing.{TookSome}
use Rattle.lx_piece.proofs.waiting.take_queue.Given as goal

abbrev pub invariant-loop-piece : goal.invariant-loop-piece
invariant-loop-piece g l =
    record {
      plan : g.T.Taker.plan l.taker ≡ g.T.Taker.plan l.fn.taker;
      follows : g.T.Taker.follows l.fn.taker l.taker;
      took : TookSome g.M.Maker.made (g.T.Taker.plan l.fn.taker) l.file l.fn.queue.items l.queue.items l.closed (g.T.Taker.turn l.taker);
    }

abbrev pub decreases-loop-piece : goal.decreases-loop-piece
decreases-loop-piece g l = length l.queue.items
