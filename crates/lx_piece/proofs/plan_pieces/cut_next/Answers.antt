use Rattle.std.proofs.Common.{ℕ, ◌+◌, sym, ◌∙◌, ap}
use Rattle.lx_piece.proofs.AllCut.{cut_first, cut_more, cut_none}
use Rattle.lx_piece.proofs.plan_pieces.cut_next.Goals as goal

pub returns-in-Some-clause-ok : goal.returns-in-Some-clause-ok
returns-in-Some-clause-ok g c =
    let e = rw c.in-Some.is at c.in_ok-piece.ensures.piece in
    (e.0, cut_more g.M.Maker.made c.args.plan.now c.args.cutter.now c.next_made.new.self c.in-Some.piece e.1 c.next_made.ensures.file e.2)

pub returns-clause-ok : goal.returns-clause-ok
returns-clause-ok g c =
    let end = rw c.in_default.is at c.in_ok-piece.ensures.piece in
    cut_first g.M.Maker.made c.args.plan.now c.args.cutter.now c.new.result _ c.next_made-2.result end.0 (c.new.ensures.file ∙ sym (ap (λ (n : ℕ). n + 1) c.requires.file)) c.new.ensures.first
    c.next_made-2.ensures.file c.next_made-2.ensures.piece

pub returns-clause-err : goal.returns-clause-err
returns-clause-err g c =
    let end = rw c.in_default.is at c.in_ok-piece.ensures.piece in
    cut_none g.M.Maker.made c.args.plan.now c.args.cutter.now c.new.result c.next_made-2.new.self c.next_made-2.result end.0 (c.new.ensures.file ∙ sym (ap (λ (n : ℕ). n + 1) c.requires.file)) c.new.ensures.first c.next_made-2.ensures.err
