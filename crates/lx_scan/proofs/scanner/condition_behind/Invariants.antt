use Rattle.std.proofs.Common.{◌≡◌, drop}
use Rattle.lx_scan.specs.Steps.{condition_after}
use Rattle.lx_scan.proofs.scanner.condition_behind.Given as goal

abbrev pub invariant-loop-step : goal.invariant-loop-step
invariant-loop-step l = condition_after (drop l.step-index l.steps) l.now ≡ condition_after l.steps l.fn.condition
