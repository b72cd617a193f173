use Rattle.std.proofs.Common.{map}
use Rattle.lx_flex.specs.Imported.{AreDefinitions}
use Rattle.lx_flex.specs.views.{definition_of}
use Rattle.lx_rules.specs.views.Rules.{definition_view}
use Rattle.lx_flex.proofs.checking.are_definitions.Given as goal

abbrev pub invariant-loop : goal.invariant-loop
invariant-loop l = AreDefinitions (map definition_of l.definitions) (map definition_view l.right) → AreDefinitions (map definition_of l.definitions) (map definition_view l.read)
