use Rattle.std.proofs.Common.{sym, ◌∙◌, subst, ◌+◌}
use Rattle.std.proofs.lemmas.Result.{IfOk-weaker}
use Rattle.lx_piece.specs.Plans.{Planned}
use Rattle.lx_piece.specs.Waiting.{KeepsUp, TookWaiting, counted, queued}
use Rattle.lx_piece.proofs.Handing.{held_later, taken_open, taken_closed}
use Rattle.lx_piece.proofs.waiting.place.Goals as goal

pub returns-then-piece-first-clause-placed : goal.returns-then-piece-first-clause-placed
returns-then-piece-first-clause-placed g c = λ counts k next.
    subst (λ ws. KeepsUp g.M.Maker.made (g.T.Taker.plan c.args.taker.now) (g.T.Taker.turn c.args.taker.now) (counted counts c.args.piece.file) c.args.first ws) (sym c.in_ok-hold.ensures.held)
    (held_later g.M.Maker.made _ _ counts c.args.first (queued c.args.waiting.now.items) c.args.piece k next c.if-piece-first.true)

pub returns-then-not-closes-clause-placed : goal.returns-then-not-closes-clause-placed
returns-then-not-closes-clause-placed g c = λ counts k next.
    taken_open g.M.Maker.made _ _ counts c.args.first (queued c.args.waiting.now.items) c.args.piece k next c.if-piece-first.false (sym c.is_closing-closes.ensures ∙ c.if-not-closes.true) _ c.in_ok-take.ensures.turn

pub returns-clause-placed : goal.returns-clause-placed
returns-clause-placed g c = λ counts k next.
    let made = g.M.Maker.made in
    let before = g.T.Taker.plan c.args.taker.now in
    let queues = queued c.args.waiting.now.items in
    let after = g.T.Taker.turn c.take_waiting.new.taker in
    let marked = sym c.is_closing-closes.ensures ∙ c.if-not-closes.false in
    IfOk-weaker c.take_waiting.result
    (λ file. TookWaiting (g.T.Taker.plan c.take.new.self) (c.args.first + 1) queues file (queued c.take_waiting.new.waiting.items) after)
    (λ file. KeepsUp made before after (counted counts c.args.piece.file) file (queued c.take_waiting.new.waiting.items))
    (λ file w. taken_closed made before _ counts c.args.first queues c.args.piece k next file (queued c.take_waiting.new.waiting.items) after c.if-piece-first.false marked
    (subst (λ (plan : Planned). TookWaiting plan (c.args.first + 1) queues file (queued c.take_waiting.new.waiting.items) after) c.in_ok-take.ensures.plan w))
    c.take_waiting.ensures.took
