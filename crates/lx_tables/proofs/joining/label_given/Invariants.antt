use Rattle.std.proofs.Common.{◌≡◌, drop}
use Rattle.lx_tables.specs.Joined.{giving}
use Rattle.lx_tables.proofs.joining.label_given.Given as goal

abbrev pub invariant-loop-step : goal.invariant-loop-step
invariant-loop-step l = giving (drop l.step-index l.steps) ≡ giving l.steps
