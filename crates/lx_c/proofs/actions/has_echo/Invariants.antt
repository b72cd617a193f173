use Rattle.std.proofs.Common.{◌≡◌, false, take}
use Rattle.std.specs.List.{list_any}
use Rattle.lx_c.specs.Actions as actions
use Rattle.lx_c.proofs.actions.has_echo.Given as goal

abbrev pub invariant-loop-step : goal.invariant-loop-step
invariant-loop-step l = list_any actions.is_echo (take l.step-index l.steps) ≡ false
