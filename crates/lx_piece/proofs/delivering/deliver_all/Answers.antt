use Rattle.std.proofs.Common.{sym, ◌∙◌, subst}
use Rattle.lx_piece.specs.Delivered.{AreAtMost}
use Rattle.lx_piece.specs.NextPiece.{IsNextPieceBy}
use Rattle.lx_piece.proofs.ReaderCounts.{delivered_is_next, counts_follow, planned_delivered, fewer_held, counts_rise, risen_more, same_size}
use Rattle.lx_piece.proofs.Counts.{nexts}
use Rattle.lx_piece.proofs.Standing.{same_shape}
use Rattle.lx_piece.proofs.delivering.deliver_all.Goals as goal

pub take-requires-clause-next : goal.take-requires-clause-next
take-requires-clause-next g c =
    let i = c.loop-piece.invariant in
    let h = c.in-Some.ensures.delivered in
    subst (λ plan. IsNextPieceBy g.M.Maker.made plan (g.R.ReaderOf.counts c.loop-piece.reader) c.in-Some.piece) (sym i.plan)
    (delivered_is_next g.M.Maker.made _ _ _ _ h.0 c.in-Some.piece c.requires.per_piece i.planned i.counts h.1)

pub loop-piece-smaller : goal.loop-piece-smaller
loop-piece-smaller g c = let h = c.in-Some.ensures.delivered in fewer_held _ _ h.0 c.in-Some.piece h.1

pub loop-piece-preserved : goal.loop-piece-preserved
loop-piece-preserved g c =
    let i = c.loop-piece.invariant in
    let h = c.in-Some.ensures.delivered in
    let took = c.in-Ok.ensures in
    let counts = counts_follow g.M.Maker.made _ _ _ _ _ h.0 c.in-Some.piece i.planned i.counts h.1 took.ok in
    record {
      plan = took.plan ∙ i.plan;
      follows = g.met.R.ReaderOf.follows_on _ _ _ i.follows took.follows;
      planned = planned_delivered g.M.Maker.made _ _ _ h.0 c.in-Some.piece i.planned h.1;
      counts = counts;
      risen = risen_more _ _ _ _ _ h.0 c.in-Some.piece i.risen i.counts counts h.1;
      faults = took.no_fault ∙ i.faults;
      stands = λ came s. c.in-Some.ensures.stands came (i.stands came s);
      shape = same_shape _ _ c.in-Some.ensures.run (same_size _ _ h.0 c.in-Some.piece h.1) ∙ i.shape;
    }

pub returns-in-Err-Device-clause-err : goal.returns-in-Err-Device-clause-err
returns-in-Err-Device-clause-err g c =
    let h = c.in-Some.ensures.delivered in (
      subst (λ counts. AreAtMost counts (nexts c.deliver.new.self.buffers)) (sym (c.in-Err-Device.ensures.err ∙ c.loop-piece.invariant.counts)) (counts_rise _ _ h.0 c.in-Some.piece h.1),
      subst (AreAtMost (g.R.ReaderOf.counts c.args.reader.now)) (sym c.in-Err-Device.ensures.err) c.loop-piece.invariant.risen,
    )

pub returns-in-Err-Memory-clause-err : goal.returns-in-Err-Memory-clause-err
returns-in-Err-Memory-clause-err g c =
    let h = c.in-Some.ensures.delivered in (
      subst (λ counts. AreAtMost counts (nexts c.deliver.new.self.buffers)) (sym (c.in-Err-Memory.ensures.err ∙ c.loop-piece.invariant.counts)) (counts_rise _ _ h.0 c.in-Some.piece h.1),
      subst (AreAtMost (g.R.ReaderOf.counts c.args.reader.now)) (sym c.in-Err-Memory.ensures.err) c.loop-piece.invariant.risen,
    )
