use Rattle.std.proofs.Common.{◌≡◌, length}
use Rattle.lx_rules.specs.Invariant as invariant
use Rattle.lx_tables.proofs.limits.are_steps.Given as goal

abbrev pub invariant-loop-step : goal.invariant-loop-step
invariant-loop-step l = invariant.are_steps l.conditions l.kinds l.rest ≡ invariant.are_steps l.conditions l.kinds l.steps

abbrev pub decreases-loop-step : goal.decreases-loop-step
decreases-loop-step l = length l.rest
