use Rattle.std.proofs.Common.{◌≡◌, map, take}
use Rattle.lx_rules.specs.views.Conditions.{condition_view}
use Rattle.lx_spec.specs.views.Sections.{start_condition_view}
use Rattle.lx_spec.proofs.build.conditions_from.Given as goal

abbrev pub invariant-loop-start_condition : goal.invariant-loop-start_condition
invariant-loop-start_condition l = map condition_view l.conditions.items ≡ map start_condition_view (take l.start_condition-index l.start_conditions)
