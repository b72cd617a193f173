use Rattle.std.proofs.Common.{◌≡◌, ◌-◌, ◌^◌, vec_len}
use Rattle.lx_piece.specs.Arrivals.{shape_of}
use Rattle.lx_piece.specs.Kept.{NoneReady, shape_of_kept, delivered_counts}
use Rattle.lx_piece.proofs.SoFar.{SoFar}
use Rattle.lx_piece.proofs.relaying.relay_of.Given as goal

-- the collector represents the list that came, the replies are those to it, and all that can be delivered is delivered
abbrev pub invariant-loop-piece : goal.invariant-loop-piece
invariant-loop-piece g l =
    record {
      arrivals_plan : g.A.ArrivalsOf.plan l.arrivals ≡ l.plan;
      reader_plan : g.R.ReaderOf.plan l.reader ≡ l.plan;
      follows : g.R.ReaderOf.follows l.fn.reader l.reader;
      counts : g.R.ReaderOf.counts l.reader ≡ delivered_counts l.collector;
      faults : g.R.ReaderOf.fault_count l.reader ≡ g.R.ReaderOf.fault_count l.fn.reader;
      shape : shape_of_kept l.collector ≡ shape_of l.plan;
      ready : NoneReady l.collector.buffers;
      so_far : SoFar g.M.Maker.made l.plan (λ came. g.A.ArrivalsOf.leads l.fn.arrivals came l.arrivals) l.collector l.replies.items;
    }

abbrev pub decreases-loop-piece : goal.decreases-loop-piece
decreases-loop-piece g l = 2 ^ 64 - vec_len l.replies
