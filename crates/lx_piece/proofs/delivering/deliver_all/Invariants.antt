use Rattle.std.proofs.Common.{◌≡◌, List}
use Rattle.lx_piece.specs.declared.piece.Piece.{Piece}
use Rattle.lx_piece.specs.Kept.{StandsFor, shape_of_kept, delivered_counts, held_total}
use Rattle.lx_piece.specs.Delivered.{HoldsPlanned, AreAtMost}
use Rattle.lx_piece.proofs.delivering.deliver_all.Given as goal

-- the reader's counts are the collector's
abbrev pub invariant-loop-piece : goal.invariant-loop-piece
invariant-loop-piece g l =
    record {
      plan : g.R.ReaderOf.plan l.reader ≡ g.R.ReaderOf.plan l.fn.reader;
      follows : g.R.ReaderOf.follows l.fn.reader l.reader;
      planned : HoldsPlanned g.M.Maker.made (g.R.ReaderOf.plan l.fn.reader) l.collector.buffers;
      counts : g.R.ReaderOf.counts l.reader ≡ delivered_counts l.collector;
      risen : AreAtMost (g.R.ReaderOf.counts l.fn.reader) (g.R.ReaderOf.counts l.reader);
      faults : g.R.ReaderOf.fault_count l.reader ≡ g.R.ReaderOf.fault_count l.fn.reader;
      stands : (came : List (Piece _)) → StandsFor l.fn.collector came → StandsFor l.collector came;
      shape : shape_of_kept l.collector ≡ shape_of_kept l.fn.collector;
    }

abbrev pub decreases-loop-piece : goal.decreases-loop-piece
decreases-loop-piece g l = held_total l.collector.buffers
