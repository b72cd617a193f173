use Rattle.std.proofs.Common.{◌≡◌, map, drop}
use Rattle.lx_spec.specs.views.Actions.{statement_view}
use Rattle.lx_spec.specs.Outcome as plain
use Rattle.lx_spec.proofs.build.returned_by.Given as goal

abbrev pub invariant-loop-statement : goal.invariant-loop-statement
invariant-loop-statement l = plain.returned_by (map statement_view (drop l.statement-index l.statements)) ≡ plain.returned_by (map statement_view l.statements)
