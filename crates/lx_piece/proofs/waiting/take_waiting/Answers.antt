use Rattle.std.proofs.Common.{◌≡◌, ◌==◌, ◌<◌, ◌+◌, true, false, sym, ◌∙◌, subst, ap, arith, length}
use Rattle.lx_piece.specs.Plans.{Planned, files_of}
use Rattle.lx_piece.specs.Pieces.{pieces_of}
use Rattle.lx_piece.specs.Turns.{turn_at}
use Rattle.lx_piece.specs.Waiting.{AreFirstPieces, TookWaiting, queued, waiting_of}
use Rattle.lx_piece.proofs.Handing.{TookFiles, queue_read, queue_set, queue_count, next_pieces, files_more, files_open}
use Rattle.lx_piece.proofs.waiting.take_waiting.Goals as goal

pub take_queue-requires-clause-queue : goal.take_queue-requires-clause-queue
take_queue-requires-clause-queue g c =
    let i = c.loop-file.invariant in
    let queues = c.loop-file.waiting.items in
    let here : c.loop-file.file < length queues = omega (arith, c.loop-file-test.true) in
    let within : c.loop-file.file < files_of (g.T.Taker.plan c.args.taker.now) = omega (arith, queue_count queues, i.took.lists, c.requires.waits.lists) in
    let read = queue_read queues c.loop-file.file c.index_mut.result.now here c.index_mut.ensures.value in
    subst (λ (plan : Planned). AreFirstPieces g.M.Maker.made plan c.loop-file.file c.index_mut.result.now.items) (sym i.plan)
    (subst (AreFirstPieces g.M.Maker.made (g.T.Taker.plan c.args.taker.now) c.loop-file.file) read
    (next_pieces g.M.Maker.made _ c.args.from (queued c.args.waiting.now.items) c.loop-file.file (queued queues) _ c.requires.waits i.took within))

pub returns-then-not-branch-clause-took : goal.returns-then-not-branch-clause-took
returns-then-not-branch-clause-took g c =
    let i = c.loop-file.invariant in
    let queues = c.loop-file.waiting.items in
    let e = c.in_ok-take_queue.ensures in
    let before = g.T.Taker.plan c.args.taker.now in
    let file = c.loop-file.file in
    let here : file < length queues = omega (arith, c.loop-file-test.true) in
    let within : file < files_of before = omega (arith, queue_count queues, i.took.lists, c.requires.waits.lists) in
    let read = queue_read queues file c.index_mut.result.now here c.index_mut.ensures.value in
    let size = ap length read in
    let some : (length (waiting_of (queued queues) file) == pieces_of before file) ≡ false =
    ap (λ n. n == pieces_of before file) size ∙ ap (λ (plan : Planned). length c.index_mut.result.now.items == pieces_of plan file) (sym i.plan) ∙ sym e.closed ∙ c.if-not-branch.true in
    let turn : g.T.Taker.turn c.take_queue.new.taker ≡ turn_at before file (length (waiting_of (queued queues) file)) =
    e.turn ∙ ap (λ (plan : Planned). turn_at plan file (length c.index_mut.result.now.items)) i.plan ∙ ap (turn_at before file) (sym size) in
    subst (λ ws. TookWaiting before c.args.from (queued c.args.waiting.now.items) file ws (g.T.Taker.turn c.take_queue.new.taker)) (sym (queue_set queues file c.take_queue.new.queue))
    (files_open g.M.Maker.made before c.args.from (queued c.args.waiting.now.items) file (queued queues) _ c.requires.waits i.took within c.take_queue.new.queue.items (g.T.Taker.turn c.take_queue.new.taker) some turn)

pub loop-file-preserved : goal.loop-file-preserved
loop-file-preserved g c =
    let i = c.loop-file.invariant in
    let queues = c.loop-file.waiting.items in
    let e = c.in_ok-take_queue.ensures in
    let before = g.T.Taker.plan c.args.taker.now in
    let file = c.loop-file.file in
    let here : file < length queues = omega (arith, c.loop-file-test.true) in
    let within : file < files_of before = omega (arith, queue_count queues, i.took.lists, c.requires.waits.lists) in
    let read = queue_read queues file c.index_mut.result.now here c.index_mut.ensures.value in
    let size = ap length read in
    let all : (length (waiting_of (queued queues) file) == pieces_of before file) ≡ true =
    ap (λ n. n == pieces_of before file) size ∙ ap (λ (plan : Planned). length c.index_mut.result.now.items == pieces_of plan file) (sym i.plan) ∙ sym e.closed ∙ c.if-not-branch.false in
    let turn : g.T.Taker.turn c.take_queue.new.taker ≡ turn_at before file (length (waiting_of (queued queues) file)) =
    e.turn ∙ ap (λ (plan : Planned). turn_at plan file (length c.index_mut.result.now.items)) i.plan ∙ ap (turn_at before file) (sym size) in
    record {
      plan = e.plan ∙ i.plan;
      follows = g.met.T.Taker.follows_on _ _ _ i.follows e.follows;
      took = subst (λ ws. TookFiles before c.args.from (queued c.args.waiting.now.items) (file + 1) ws (g.T.Taker.turn c.take_queue.new.taker)) (sym (queue_set queues file c.take_queue.new.queue))
          (files_more g.M.Maker.made before c.args.from (queued c.args.waiting.now.items) file (queued queues) _ c.requires.waits i.took within c.take_queue.new.queue.items (g.T.Taker.turn c.take_queue.new.taker) all turn);
    }
