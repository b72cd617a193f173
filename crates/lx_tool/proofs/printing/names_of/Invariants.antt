use Rattle.std.proofs.Common.{◌≡◌, map, take}
use Rattle.lx_rules.specs.views.Rules.{names_view}
use Rattle.lx_tool.proofs.printing.names_of.Given as goal

abbrev pub invariant-loop-condition : goal.invariant-loop-condition
invariant-loop-condition l = names_view l.names.items ≡ map (λ condition. condition.name.items) (take l.condition-index l.conditions)
