use Rattle.std.proofs.Common.{◌≡◌, ◌+◌, ◌≤◌, drop}
use Rattle.lx_tables.specs.Joined.{item_count}
use Rattle.lx_tables.proofs.joining.item_count.Given as goal

abbrev pub invariant-loop-step : goal.invariant-loop-step
invariant-loop-step l = record {
  rest : l.count + item_count (drop l.step-index l.steps) ≡ item_count l.steps;
  few : l.count ≤ l.step-index;
}
