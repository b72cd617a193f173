use Rattle.std.proofs.Common.{[], ◌∷◌, arith, decimal, length-append}
use Rattle.std.proofs.lemmas.Fmt.{length-decimal-le}
use Rattle.lx_line.proofs.ShortNumbers.{short_at}
use Rattle.lx_line.proofs.Places.{Placed-is}
use Rattle.lx_line.proofs.decimals.place_short.Goals as goal

pub place_4-requires-clause-part : goal.place_4-requires-clause-part
place_4-requires-clause-part c =
    let few = (short_at c.args.number c.requires.number).few in
    omega arith

pub returns-clause-placed : goal.returns-clause-placed
returns-clause-placed c = Placed-is c.place_4.ensures (short_at c.args.number c.requires.number).text

pub returns-clause-short : goal.returns-clause-short
returns-clause-short c =
    let placed = Placed-is c.place_4.ensures (short_at c.args.number c.requires.number).text in
    omega (arith, placed.moved, length-append (decimal c.args.number) (32 ∷ []), length-decimal-le 2 c.args.number (omega arith) (omega arith) (omega arith))
