use Rattle.std.proofs.Common.{◌≡◌, map, take}
use Rattle.std.specs.List.{flat_map}
use Rattle.lx_spec.specs.Dictionary.{row_of}
use Rattle.lx_spec.specs.Outcome.{patterns_in}
use Rattle.lx_spec.specs.views.ResolvedRules.{resolved_view}
use Rattle.lx_spec.specs.views.Sections.{raw_definition_view}
use Rattle.lx_spec.proofs.reach.row_of_all.Given as goal

abbrev pub invariant-loop-i : goal.invariant-loop-i
invariant-loop-i l = l.row.items ≡ flat_map (row_of (map raw_definition_view l.index.definitions.now)) (patterns_in (map resolved_view (take l.i l.resolved)))
