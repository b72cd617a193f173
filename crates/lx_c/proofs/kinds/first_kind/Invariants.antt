use Rattle.std.proofs.Common.{◌≡◌, ◌≤◌, take}
use Rattle.std.specs.List.{flat_map}
use Rattle.lx_c.specs.Numbers.{above, returned_by}
use Rattle.lx_c.proofs.kinds.first_kind.Given as goal

abbrev pub invariant-loop-rule : goal.invariant-loop-rule
invariant-loop-rule l = record {
  number : l.first ≡ above 256 (flat_map (λ rule. returned_by rule.steps) (take l.rule l.tables.rules));
  small : l.first ≤ 4294967296;
}
