use Rattle.lx_minimize.specs.Quotients.{AreLabels}
use Rattle.lx_minimize.proofs.quotient.labels_of.Given as goal

abbrev pub invariant-loop-i : goal.invariant-loop-i
invariant-loop-i l = AreLabels l.m l.rows l.labels.items l.i
