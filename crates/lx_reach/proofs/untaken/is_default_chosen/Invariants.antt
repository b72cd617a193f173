use Rattle.std.proofs.Common.{◌<◌, ℕ, Bool}
use Rattle.lx_reach.specs.Untaken.{TakesAll}
use Rattle.lx_reach.proofs.untaken.is_default_chosen.Given as goal

abbrev pub invariant-loop-condition : goal.invariant-loop-condition
invariant-loop-condition l = (c : ℕ) (begin : Bool) → c < l.condition → TakesAll l.tables.machine c begin
