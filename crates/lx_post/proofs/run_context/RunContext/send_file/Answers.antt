use Rattle.std.proofs.Common.{◌∙◌, sym, ap, subst}
use Rattle.lx_piece.specs.Pieces.{piece_by}
use Rattle.lx_post.specs.Working.{HasSent}
use Rattle.lx_post.proofs.Sendings.{may_send_piece, sent_last}
use Rattle.lx_post.proofs.run_context.RunContext.send_file.Goals as goal

pub send-requires-clause-note : goal.send-requires-clause-note
send-requires-clause-note g c =
    let inv = c.loop-number.invariant in
    let told = c.in_ok-piece.ensures.piece in
    may_send_piece g.M.Maker.made c.args.self.now.post c.args.self.now.plan.now c.args.pass.now c.loop-number.pass c.worker-worker.result c.in-Some.piece c.requires.pass inv.pass c.worker-worker.ensures (rw c.in-Some.is at told).0

pub returns-then-is_last-clause-sent : goal.returns-then-is_last-clause-sent
returns-then-is_last-clause-sent g c =
    let inv = c.loop-number.invariant in
    let told = c.in_ok-piece.ensures.piece in
    let plan = c.args.self.now.plan.now in
    let is = (rw c.in-Some.is at told).1 ∙ ap (λ f. piece_by g.M.Maker.made plan f c.loop-number.cutter.next) inv.file ∙ ap (piece_by g.M.Maker.made plan c.args.file) inv.next in
    subst (HasSent g.M.Maker.made plan c.args.file) (sym c.send.ensures)
    (sent_last g.M.Maker.made plan c.args.file c.loop-number.number c.loop-number.pass c.worker-worker.result c.in-Some.piece is (sym c.is_closing-is_last.ensures ∙ c.if-is_last.true) inv.sent)
