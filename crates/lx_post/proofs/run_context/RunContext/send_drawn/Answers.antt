use Rattle.std.proofs.Common.{◌∙◌, ap}
use Rattle.lx_post.specs.Claimed.{Drawn}
use Rattle.lx_post.proofs.Sendings.{sends_on, goes_on, drawn_same, drawn_one}
use Rattle.lx_post.proofs.run_context.RunContext.send_drawn.Goals as goal

pub returns-in_default-clause-done : goal.returns-in_default-clause-done
returns-in_default-clause-done g c _ =
    let none = c.in_default.ensures.none in
    (ap (λ (seat : Drawn). seat.done) none, drawn_same g.M.Maker.made c.args.self.now.plan.now c.loop.files c.loop.seat c.draw.new.seat c.loop.pass c.loop.invariant.drawn (ap (λ (seat : Drawn). seat.drawn) none))

pub send_file-requires-clause-pass : goal.send_file-requires-clause-pass
send_file-requires-clause-pass g c = goes_on c.args.self.now.post c.args.self.now.plan.now c.args.pass.now c.loop.pass c.loop.invariant.pass c.requires.pass

pub loop-preserved : goal.loop-preserved
loop-preserved g c =
    let inv = c.loop.invariant in
    let some = c.in-Some-draw.ensures.some in
    let seat = some.3 in
    let sent = c.in-Ok.ensures in
    record {
      seat = (ap (λ (seat : Drawn). seat.word) seat ∙ inv.seat.0, ap (λ (seat : Drawn). seat.files) seat ∙ inv.seat.1);
      pass = sends_on c.args.pass.now c.loop.pass c.send_file.new.pass inv.pass sent.pass;
      drawn = drawn_one g.M.Maker.made c.args.self.now.plan.now c.loop.files c.in-Some-draw.file c.loop.seat c.draw.new.seat c.loop.pass c.send_file.new.pass inv.drawn some.1 (ap (λ (seat : Drawn). seat.drawn) seat) sent.pass sent.sent;
    }
