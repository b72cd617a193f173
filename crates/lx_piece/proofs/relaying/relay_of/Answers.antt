use Rattle.std.proofs.Common.{◌≡◌, ◌<◌, ℕ, sym, ◌∙◌, subst, ap, [], refl, Err, arith}
use Rattle.std.specs.Prelude.{Result, slice_get}
use Rattle.std.proofs.lemmas.List.Elements.{All-nil}
use Rattle.std.proofs.lemmas.Result.{err_from_is_err_and}
use Rattle.lx_piece.specs.Plans.{Planned}
use Rattle.lx_piece.specs.Arrivals.{IsHonestBy}
use Rattle.lx_piece.specs.Relayed.{TellsRelayFaults}
use Rattle.lx_piece.specs.declared.delivering.RelayFault.{RelayFault}
use Rattle.lx_piece.specs.declared.delivering.RelayFault.TheVariants as fault
use Rattle.lx_piece.specs.Kept.{is_ready_at}
use Rattle.lx_piece.specs.Delivered.{HoldsPlanned}
use Rattle.lx_piece.proofs.SoFar.{SoFar}
use Rattle.lx_piece.proofs.Whole.{whole}
use Rattle.lx_piece.proofs.Deliveries.{part_at_start, fresh_shape, fresh_delivered, fresh_ready, so_far_with, so_far_still, in_part_behind, in_part_with, planned_from}
use Rattle.lx_piece.proofs.relaying.relay_of.Goals as goal

pub returns-in_err-collector-clause-err : goal.returns-in_err-collector-clause-err
returns-in_err-collector-clause-err g c =
    let p = err_from_is_err_and c.from_residual.result c.from_residual.ensures.1 in
    rw p.1 (part_at_start g.M.Maker.made c.args.plan.now _ _ c.files.ensures.plan.some_items (g.met.A.ArrivalsOf.stays _) c.requires.reader.nothing)

pub loop-piece-init : goal.loop-piece-init
loop-piece-init g c =
    let k = c.in_ok-collector.ensures in
    record {
      arrivals_plan = c.requires.arrivals_plan;
      reader_plan = c.requires.reader.same;
      follows = g.met.R.ReaderOf.follows_itself _;
      counts = c.requires.reader.nothing ∙ fresh_delivered c.args.plan.now _ _ _ k.kept c.files.ensures.count;
      faults = refl;
      shape = fresh_shape c.args.plan.now _ _ _ k.kept c.run.ensures c.files.ensures.count;
      ready = λ file. ap (λ kept. is_ready_at (slice_get kept.buffers file)) k.kept ∙ fresh_ready _ c.files.result file;
      so_far = record { came = []; led = g.met.A.ArrivalsOf.stays _; honest = All-nil (IsHonestBy g.M.Maker.made c.args.plan.now); replied = c.new-replies.ensures.items; stands = k.stands };
    }

pub returns-in_err-reply-clause-err : goal.returns-in_err-reply-clause-err
returns-in_err-reply-clause-err g c =
    let i = c.loop-piece.invariant in
    let p = err_from_is_err_and c.from_residual-in_err-reply.result c.from_residual-in_err-reply.ensures.1 in
    rw p.1 (in_part_with g.M.Maker.made c.args.plan.now g.A.ArrivalsOf.leads g.met.A.ArrivalsOf.goes_on _ _ _ c.loop-piece.collector _ _ c.in-Some.piece c.files.ensures.plan.some_items i.so_far c.in-Some.ensures.leads (subst (λ plan. IsHonestBy g.M.Maker.made plan c.in-Some.piece) i.arrivals_plan c.in-Some.ensures.honest) i.shape i.ready i.counts)

pub deliver_all-requires-clause-planned : goal.deliver_all-requires-clause-planned
deliver_all-requires-clause-planned g c =
    let i = c.loop-piece.invariant in
    let b = c.in_ok-reply.ensures in
    let honest = subst (λ plan. IsHonestBy g.M.Maker.made plan c.in-Some.piece) i.arrivals_plan c.in-Some.ensures.honest in
    let so = so_far_with g.M.Maker.made c.args.plan.now g.A.ArrivalsOf.leads g.met.A.ArrivalsOf.goes_on _ _ _ c.loop-piece.collector c.offer_to.new.collector _ c.in-Some.piece c.in_ok-reply.reply i.so_far c.in-Some.ensures.leads honest i.shape b.reply b.stands in
    subst (λ plan. HoldsPlanned g.M.Maker.made plan c.offer_to.new.collector.buffers) (sym i.reader_plan) (planned_from g.M.Maker.made c.args.plan.now c.offer_to.new.collector so.came (b.shape ∙ i.shape) so.stands so.honest)

pub returns-clause-ok : goal.returns-clause-ok
returns-clause-ok g c =
    let i = c.loop-piece.invariant in
    whole g.M.Maker.made c.args.plan.now g.A.ArrivalsOf.leads g.met.A.ArrivalsOf.goes_on _ _ _ c.loop-piece.collector _ _ c.files.ensures.plan.some_items i.so_far c.in_default.ensures.leads.0 i.shape i.ready i.counts

pub returns-in_err-push-clause-err : goal.returns-in_err-push-clause-err
returns-in_err-push-clause-err g c =
    let i = c.loop-piece.invariant in
    let p = err_from_is_err_and c.from_residual-in_err-push.result c.from_residual-in_err-push.ensures.1 in
    rw p.1 (in_part_with g.M.Maker.made c.args.plan.now g.A.ArrivalsOf.leads g.met.A.ArrivalsOf.goes_on _ _ _ c.loop-piece.collector _ _ c.in-Some.piece c.files.ensures.plan.some_items i.so_far c.in-Some.ensures.leads (subst (λ plan. IsHonestBy g.M.Maker.made plan c.in-Some.piece) i.arrivals_plan c.in-Some.ensures.honest) i.shape i.ready i.counts)

pub loop-piece-preserved : goal.loop-piece-preserved
loop-piece-preserved g c =
    let i = c.loop-piece.invariant in
    let b = c.in_ok-reply.ensures in
    let h = c.in_ok-deliver_all.ensures in
    let honest = subst (λ plan. IsHonestBy g.M.Maker.made plan c.in-Some.piece) i.arrivals_plan c.in-Some.ensures.honest in
    let so = so_far_with g.M.Maker.made c.args.plan.now g.A.ArrivalsOf.leads g.met.A.ArrivalsOf.goes_on _ _ _ c.loop-piece.collector c.offer_to.new.collector _ c.in-Some.piece c.in_ok-reply.reply i.so_far c.in-Some.ensures.leads honest i.shape b.reply b.stands in
    let then = so_far_still g.M.Maker.made c.args.plan.now _ c.offer_to.new.collector c.deliver_all.new.collector _ so h.stands in
    let heard = c.hear.ensures in
    record {
      arrivals_plan = ap g.A.ArrivalsOf.plan heard ∙ c.in-Some.ensures.plan ∙ i.arrivals_plan;
      reader_plan = h.plan ∙ i.reader_plan;
      follows = g.met.R.ReaderOf.follows_on _ _ _ i.follows h.follows;
      counts = h.ok.0;
      faults = h.ok.2 ∙ i.faults;
      shape = h.shape ∙ (b.shape ∙ i.shape);
      ready = h.ok.1;
      so_far =
          subst (λ arrivals. SoFar g.M.Maker.made c.args.plan.now (λ came. g.A.ArrivalsOf.leads c.args.arrivals.now came arrivals) c.deliver_all.new.collector c.push.new.self.items) (sym heard)
          (subst (λ replies. SoFar g.M.Maker.made c.args.plan.now (λ came. g.A.ArrivalsOf.leads c.args.arrivals.now came c.next.new.self) c.deliver_all.new.collector replies) (sym c.in_ok-push.ensures.items) then);
    }

pub returns-in_err-deliver_all-clause-err : goal.returns-in_err-deliver_all-clause-err
returns-in_err-deliver_all-clause-err g c =
    let i = c.loop-piece.invariant in
    let b = c.in_ok-reply.ensures in
    let h = c.in_err-deliver_all.ensures in
    let honest = subst (λ plan. IsHonestBy g.M.Maker.made plan c.in-Some.piece) i.arrivals_plan c.in-Some.ensures.honest in
    let p = err_from_is_err_and c.from_residual-in_err-deliver_all.result c.from_residual-in_err-deliver_all.ensures.1 in
    rw p.1 (in_part_behind g.M.Maker.made c.args.plan.now g.A.ArrivalsOf.leads g.met.A.ArrivalsOf.goes_on _ _ _ c.loop-piece.collector c.offer_to.new.collector c.deliver_all.new.collector _ _ _ c.in-Some.piece c.in_ok-reply.reply c.files.ensures.plan.some_items i.so_far c.in-Some.ensures.leads honest i.shape i.ready i.counts b.reply b.stands h.stands (h.shape ∙ (b.shape ∙ i.shape)) h.err.0 h.err.1)

pub deliver_all-requires-clause-per_piece : goal.deliver_all-requires-clause-per_piece
deliver_all-requires-clause-per_piece g c = subst (λ (plan : Planned). 0 < plan.per_piece) (sym c.loop-piece.invariant.reader_plan) c.files.ensures.plan.some_items

pub returns-in_err-deliver_all-clause-follows : goal.returns-in_err-deliver_all-clause-follows
returns-in_err-deliver_all-clause-follows g c = g.met.R.ReaderOf.follows_on _ _ _ c.loop-piece.invariant.follows c.in_err-deliver_all.ensures.follows

-- an answer has one fault
same_fault : {X E : Type 0} (answer : Result X E) (fault other : E) → answer ≡ Err fault → answer ≡ Err other → fault ≡ other
same_fault answer fault other is also = cc

pub returns-in_err-deliver_all-clause-faults : goal.returns-in_err-deliver_all-clause-faults
returns-in_err-deliver_all-clause-faults g c =
    let p = err_from_is_err_and c.from_residual-in_err-deliver_all.result c.from_residual-in_err-deliver_all.ensures.1 in
    let same = c.loop-piece.invariant.faults in
    record {
      failed = λ e. let more = c.in_err-deliver_all.ensures.reader (ap Err (sym p.2 ∙ same_fault _ _ _ p.1 e)) in omega arith;
      memory = λ e. c.in_err-deliver_all.ensures.memory (ap Err (sym p.2 ∙ same_fault _ _ _ p.1 e)) ∙ same;
      none = rw p.1 tt;
    }

-- a refused request for memory is no failure of the reader
no_failure : {X : Type 0} (answer : Result X RelayFault) → answer ≡ Err fault.Memory → answer ≡ Err fault.Reader → ⊥
no_failure answer memory reader = cc

tells_memory : {X : Type 0} (answer : Result X RelayFault) (before after : ℕ) → answer ≡ Err fault.Memory → after ≡ before → TellsRelayFaults answer before after
tells_memory answer before after is same = record {
  failed = λ e. absurd (no_failure answer is e);
  memory = λ e. same;
  none = rw is tt;
}

pub returns-in_err-reply-clause-faults : goal.returns-in_err-reply-clause-faults
returns-in_err-reply-clause-faults g c =
    let p = err_from_is_err_and c.from_residual-in_err-reply.result c.from_residual-in_err-reply.ensures.1 in
    tells_memory _ _ _ (p.1 ∙ ap Err (p.2 ∙ c.in_err-reply.ensures.memory)) c.loop-piece.invariant.faults

pub returns-in_err-push-clause-faults : goal.returns-in_err-push-clause-faults
returns-in_err-push-clause-faults g c =
    let p = err_from_is_err_and c.from_residual-in_err-push.result c.from_residual-in_err-push.ensures.1 in
    tells_memory _ _ _ (p.1 ∙ ap Err p.2) c.loop-piece.invariant.faults
