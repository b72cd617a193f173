use Rattle.std.proofs.Common.{◌≤◌, sym, arith}
use Rattle.lx_line.proofs.Places.{Placed-is}
use Rattle.lx_line.proofs.Unescaped.{plain_and_one}
use Rattle.lx_line.proofs.texts.place_part.Goals as goal

pub returns-then-plain-eq16-clause-placed : goal.returns-then-plain-eq16-clause-placed
returns-then-plain-eq16-clause-placed g c =
    let whole : 16 ≤ c.args.plain = let is = c.if-plain-eq16.true in omega arith in
    Placed-is (c.put_16.ensures 16 (omega arith)) (sym (c.requires.plain 16 whole))

pub returns-clause-placed : goal.returns-clause-placed
returns-clause-placed g c =
    plain_and_one g.E.Escape.shown c.args.bytes.now c.args.from c.args.plain (omega arith) (c.put_16.ensures c.args.plain c.requires.few) (c.requires.plain c.args.plain (omega arith)) c.place_shown-end.ensures.placed
