use Rattle.std.proofs.Common.{rules}
use Rattle.std.proofs.lemmas.Bool.{ltb-true}
use Rattle.lx_piece.proofs.reorder_buffer.ReorderBuffer.holds_later.Goals as goal

pub returns-in-Some-clause-yes : goal.returns-in-Some-clause-yes
returns-in-Some-clause-yes g c = λ h.
    let e = c.in-Some.ensures in
    (c.in-Some.greatest.now, ltb-true c.args.number c.in-Some.greatest.now h, search rules)
