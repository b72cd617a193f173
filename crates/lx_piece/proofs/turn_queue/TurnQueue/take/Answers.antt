use Rattle.std.proofs.Common.{◌<◌, ◌+◌, sym, subst, arith, length, List, ℕ}
use Rattle.std.specs.Prelude.{slice_set}
use Rattle.lx_piece.specs.Plans.{Planned, IsPlan}
use Rattle.lx_piece.specs.NextPiece.{IsNextPieceBy}
use Rattle.lx_piece.specs.Turns.{IsTurnBy}
use Rattle.lx_piece.specs.Waiting.{KeepsUp, queued}
use Rattle.lx_piece.specs.Passing.{Passing, PassesOn}
use Rattle.lx_piece.proofs.Passed.{count_raised, passes_taken, turn_by}
use Rattle.lx_piece.proofs.turn_queue.TurnQueue.take.Goals as goal

pub invariant_of-self-in-Ok : goal.invariant_of-self-in-Ok
invariant_of-self-in-Ok g c =
    let s = c.self.inside in
    let made = g.M.Maker.made in
    let before = g.T.Taker.plan s.taker in
    let turn = g.T.Taker.turn c.place.new.taker in
    let waiting = queued c.place.new.waiting.items in
    let next = subst (λ (t : Passing _). IsNextPieceBy made (g.T.Taker.plan t.taker) t.counts c.args.piece) (sym c.self.view_is) c.requires.next in
    let keeps = c.self.invariant.keeps c.if-self.false in
    let there : c.args.piece.file < length s.counts.items = (let files = keeps.first_open.files in let l = next.planned.file in omega arith) in
    let same = sym c.in-Ok.ensures.plan in
    record {
      plan_is = subst IsPlan same c.self.invariant.plan_is;
      keeps = λ _.
          subst (λ (plan : Planned). KeepsUp made plan turn (slice_set s.counts.items c.args.piece.file (c.index_mut.result.now + 1)) c.in-Ok.first waiting) same
          (subst (λ (ns : List ℕ). KeepsUp made before turn ns c.in-Ok.first waiting) (sym (count_raised s.counts.items c.args.piece.file c.index_mut.result.now there c.index_mut.ensures.value))
          (c.in-Ok.ensures.placed s.counts.items keeps next));
    }

pub returns-in-Ok-clause-follows : goal.returns-in-Ok-clause-follows
returns-in-Ok-clause-follows g c =
    let s = c.self.inside in
    let made = g.M.Maker.made in
    let after = c.place.new.taker in
    let raised = slice_set s.counts.items c.args.piece.file (c.index_mut.result.now + 1) in
    let next = subst (λ (t : Passing _). IsNextPieceBy made (g.T.Taker.plan t.taker) t.counts c.args.piece) (sym c.self.view_is) c.requires.next in
    let keeps = c.self.invariant.keeps c.if-self.false in
    let there : c.args.piece.file < length s.counts.items = (let files = keeps.first_open.files in let l = next.planned.file in omega arith) in
    let same = c.in-Ok.ensures.plan in
    let turned = turn_by made _ _ _ c.in-Ok.first _ (c.in-Ok.ensures.placed s.counts.items keeps next) in
    let is = subst (λ (plan : Planned). IsTurnBy plan raised (g.T.Taker.turn after)) (sym same)
    (subst (λ (ns : List ℕ). IsTurnBy (g.T.Taker.plan s.taker) ns (g.T.Taker.turn after)) (sym (count_raised s.counts.items c.args.piece.file c.index_mut.result.now there c.index_mut.ensures.value)) turned) in
    subst (λ (t : Passing _). PassesOn g.T.Taker.plan g.T.Taker.turn g.T.Taker.follows g.T.Taker.fails t (record { taker = after; counts = raised; faults = s.faults; failed = s.failed })) c.self.view_is
    (passes_taken g.T.Taker.plan g.T.Taker.turn g.T.Taker.follows g.T.Taker.fails s.taker after s.counts.items raised s.faults s.failed c.if-self.false same c.in-Ok.ensures.follows is)
