use Rattle.std.proofs.Common.{◌≡◌, ◌++◌, take}
use Rattle.std.specs.List.{flat_map}
use Rattle.lx_rules.specs.views.Rules.{names_view}
use Rattle.lx_graph.specs.Labels.{step_label}
use Rattle.lx_graph.proofs.labels.push_steps.Given as goal

abbrev pub invariant-loop-step : goal.invariant-loop-step
invariant-loop-step l = l.text.items ≡ l.fn.text.items ++ flat_map (step_label l.tables (names_view l.names)) (take l.step-index l.steps)
