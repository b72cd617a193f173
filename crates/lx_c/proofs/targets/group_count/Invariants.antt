use Rattle.std.proofs.Common.{◌≡◌, ◌≤◌}
use Rattle.lx_c.specs.StateCode.{count_below, in_group}
use Rattle.lx_c.proofs.targets.group_count.Given as goal

abbrev pub invariant-loop-byte : goal.invariant-loop-byte
invariant-loop-byte l = record {
  number : l.count ≡ count_below (in_group l.code.nul_ends l.code.tables.now.machine l.state l.group) l.byte;
  small : l.count ≤ l.byte;
}
