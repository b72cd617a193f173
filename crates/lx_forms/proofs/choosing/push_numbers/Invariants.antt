use Rattle.std.proofs.Common.{◌≡◌, ◌++◌, take}
use Rattle.std.specs.List.{flat_map}
use Rattle.lx_forms.specs.Choosing.{number_of_step}
use Rattle.lx_forms.proofs.choosing.push_numbers.Given as goal

abbrev pub invariant-loop-step : goal.invariant-loop-step
invariant-loop-step l = l.numbers.items ≡ l.fn.numbers.items ++ flat_map number_of_step (take l.step-index l.steps)
