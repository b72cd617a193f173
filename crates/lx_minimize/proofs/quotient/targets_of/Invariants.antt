use Rattle.std.proofs.Common.{◌*◌}
use Rattle.lx_minimize.specs.Quotients.{AreTargets}
use Rattle.lx_minimize.proofs.quotient.targets_of.Given as goal

abbrev pub invariant-loop-i : goal.invariant-loop-i
invariant-loop-i l = AreTargets l.m l.p l.rows l.targets.items (l.i * l.m.width)
