use Rattle.std.proofs.Common.{◌≡◌, ◌++◌, map, drop}
use Rattle.lx_rules.specs.views.Rules.{names_view}
use Rattle.lx_spec.specs.views.Actions.{statement_view}
use Rattle.lx_spec.specs.views.Sections.{start_condition_view}
use Rattle.lx_spec.specs.Outcome as plain
use Rattle.lx_spec.proofs.build.steps_of.Given as goal

abbrev pub invariant-loop-statement : goal.invariant-loop-statement
invariant-loop-statement l =
    l.steps.items ++ plain.steps_of (map start_condition_view l.start_conditions) (names_view l.kinds.kinds.items) (map statement_view (drop l.statement-index l.statements))
    ≡ plain.steps_of (map start_condition_view l.start_conditions) (names_view l.kinds.kinds.items) (map statement_view l.statements)
