use Rattle.std.proofs.Common.{◌≡◌, List, length, drop, length-drop, sym, ◌∙◌, subst, ap, arith}
use Rattle.lx_piece.specs.Plans.{Planned}
use Rattle.lx_piece.specs.Turns.{HasTurn, turn_after}
use Rattle.lx_piece.proofs.Handing.{TookSome, next_turn, some_next, some_all}
use Rattle.lx_piece.proofs.waiting.take_queue.Goals as goal

pub take-requires-clause-same : goal.take-requires-clause-same
take-requires-clause-same g c = c.requires.same ∙ sym c.loop-piece.invariant.plan

pub take-requires-clause-turn : goal.take-requires-clause-turn
take-requires-clause-turn g c =
    let i = c.loop-piece.invariant in
    let made = g.M.Maker.made in
    let turn = g.T.Taker.turn c.loop-piece.taker in
    subst (λ (plan : Planned). HasTurn made plan turn c.in-Some.piece) (sym i.plan)
    (next_turn made (g.T.Taker.plan c.args.taker.now) c.args.file c.args.queue.now.items _ _ _ turn c.in-Some.piece c.requires.queue i.took c.in-Some.ensures.items c.requires.file)

pub loop-piece-preserved : goal.loop-piece-preserved
loop-piece-preserved g c =
    let i = c.loop-piece.invariant in
    let made = g.M.Maker.made in
    let turn = g.T.Taker.turn c.loop-piece.taker in
    let took = c.in_ok-take.ensures in
    let after = took.turn ∙ ap (λ (plan : Planned). turn_after plan turn) i.plan in
    record {
      plan = took.plan ∙ i.plan;
      follows = g.met.T.Taker.follows_on _ _ _ i.follows took.follows;
      took = subst (λ closed. TookSome made (g.T.Taker.plan c.args.taker.now) c.args.file c.args.queue.now.items c.pop_front.new.self.items closed (g.T.Taker.turn c.take.new.self)) (sym c.is_closing-closed.ensures)
          (some_next made (g.T.Taker.plan c.args.taker.now) c.args.file c.args.queue.now.items _ _ _ turn c.in-Some.piece c.requires.queue i.took c.in-Some.ensures.items (g.T.Taker.turn c.take.new.self) after);
    }

-- nothing is left
nothing_left : {C : Type 0} (left rest : List C) → left ≡ rest → rest ≡ drop 1 left → length left ≡ 0
nothing_left left rest same dropped = omega (arith, ap length (same ∙ dropped), length-drop 1 left)

pub returns-clause-closed : goal.returns-clause-closed
returns-clause-closed g c =
    (some_all g.M.Maker.made _ c.args.file c.args.queue.now.items _ _ _ c.loop-piece.invariant.took (nothing_left _ _ c.in_default.ensures.items c.in_default.ensures.rest)).0

pub returns-clause-turn : goal.returns-clause-turn
returns-clause-turn g c =
    (some_all g.M.Maker.made _ c.args.file c.args.queue.now.items _ _ _ c.loop-piece.invariant.took (nothing_left _ _ c.in_default.ensures.items c.in_default.ensures.rest)).1
