use Rattle.lx_minimize.specs.Quotients.{AreStarts}
use Rattle.lx_minimize.proofs.quotient.starts_of.Given as goal

abbrev pub invariant-loop-condition : goal.invariant-loop-condition
invariant-loop-condition l = AreStarts l.p l.starts l.new.items l.condition
