use Rattle.std.proofs.Common.{arith}
use Rattle.lx_line.proofs.Triples.{shared_text}
use Rattle.lx_line.proofs.Places.{Placed-is, Placed-then}
use Rattle.lx_line.proofs.shared.SharedDigits.place.Goals as goal

pub returns-clause-placed : goal.returns-clause-placed
returns-clause-placed c =
    let s = c.args.self.now in
    Placed-is (Placed-then (c.put_16.ensures s.len (omega (arith, s.few))) (c.put_4.ensures s.last (omega (arith, s.most))))
    (shared_text s.front s.len s.first s.count s.base s.before s.last c.args.number s.small s.thousands s.begin s.end s.shared s.some s.most s.place s.one s.two s.three c.requires.among.0 c.requires.among.1)
