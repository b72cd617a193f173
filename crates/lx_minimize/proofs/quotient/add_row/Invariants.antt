use Rattle.std.proofs.Common.{◌+◌, ◌*◌}
use Rattle.lx_minimize.specs.Quotients.{AreTargets}
use Rattle.lx_minimize.proofs.quotient.add_row.Given as goal

abbrev pub invariant-loop-class : goal.invariant-loop-class
invariant-loop-class l = AreTargets l.m l.p l.rows l.targets.items (l.i * l.m.width + l.class)
