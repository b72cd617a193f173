use Rattle.std.proofs.Common.{◌≡◌, ◌++◌, take}
use Rattle.std.specs.List.{flat_map}
use Rattle.lx_c.specs.Actions.{step_entry}
use Rattle.lx_c.proofs.actions.push_step_entries.Given as goal

abbrev pub invariant-loop-step : goal.invariant-loop-step
invariant-loop-step l = l.text.items ≡ l.fn.text.items ++ flat_map (step_entry l.options l.first l.tables) (take l.step-index l.steps)
