use Rattle.std.proofs.Common.{◌≡◌, ◌≤◌, take}
use Rattle.lx_c.specs.Numbers.{above, returned_by}
use Rattle.lx_c.proofs.kinds.number_above_steps.Given as goal

abbrev pub invariant-loop-step : goal.invariant-loop-step
invariant-loop-step l = record {
  number : l.first ≡ above l.number (returned_by (take l.step-index l.steps));
  small : l.first ≤ 4294967296;
}
