use Rattle.lx_minimize.specs.Quotients.{HaveNoDeadStart}
use Rattle.lx_minimize.proofs.quotient.has_dead_start.Given as goal

abbrev pub invariant-loop-condition : goal.invariant-loop-condition
invariant-loop-condition l = HaveNoDeadStart l.p l.starts l.condition
