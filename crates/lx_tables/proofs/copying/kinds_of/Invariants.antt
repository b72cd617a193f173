use Rattle.std.proofs.Common.{◌≡◌, take}
use Rattle.lx_rules.specs.views.Rules.{names_view}
use Rattle.lx_tables.proofs.copying.kinds_of.Given as goal

abbrev pub invariant-loop-kind : goal.invariant-loop-kind
invariant-loop-kind l = names_view l.kinds.items ≡ names_view (take l.kind-index l.spec.kinds.items)
