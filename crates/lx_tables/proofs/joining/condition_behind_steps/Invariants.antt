use Rattle.std.proofs.Common.{◌≡◌, drop}
use Rattle.lx_tables.specs.Joined.{condition_behind}
use Rattle.lx_tables.proofs.joining.condition_behind_steps.Given as goal

abbrev pub invariant-loop-step : goal.invariant-loop-step
invariant-loop-step l = condition_behind (drop l.step-index l.steps) l.now ≡ condition_behind l.steps l.fn.condition
