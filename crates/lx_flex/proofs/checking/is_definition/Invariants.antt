use Rattle.std.proofs.Common.{map}
use Rattle.lx_flex.specs.Imported.{IsDefinition}
use Rattle.lx_flex.specs.views.{definition_of}
use Rattle.lx_rules.specs.views.Rules.{definition_view}
use Rattle.lx_flex.proofs.checking.is_definition.Given as goal

abbrev pub invariant-loop : goal.invariant-loop
invariant-loop l = IsDefinition (map definition_of l.left) (definition_view l.read) → IsDefinition (map definition_of l.definitions) (definition_view l.read)
