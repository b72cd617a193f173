use Rattle.std.proofs.Common.{◌≡◌, false, take}
use Rattle.std.specs.List.{list_any}
use Rattle.lx_c.specs.Actions as actions
use Rattle.lx_c.proofs.actions.has_echoes.Given as goal

abbrev pub invariant-loop-rule : goal.invariant-loop-rule
invariant-loop-rule l = list_any (λ rule. list_any actions.is_echo rule.steps) (take l.rule l.tables.rules) ≡ false
