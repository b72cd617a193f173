use Rattle.std.proofs.Common.{All}
use Rattle.lx_reach.specs.Takers.{IsTaker}
use Rattle.lx_reach.proofs.takers.takers_of.Given as goal

abbrev pub invariant-loop-place : goal.invariant-loop-place
invariant-loop-place l = All (IsTaker l.alone.machine l.all.machine) l.rules.items
