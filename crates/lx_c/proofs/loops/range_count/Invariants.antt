use Rattle.std.proofs.Common.{◌≡◌, ◌≤◌}
use Rattle.lx_c.specs.StateCode.{count_below, begins}
use Rattle.lx_c.proofs.loops.range_count.Given as goal

abbrev pub invariant-loop-byte : goal.invariant-loop-byte
invariant-loop-byte l = record {
  number : l.count ≡ count_below (begins l.code.nul_ends l.code.tables.now.machine l.state l.staying) l.byte;
  small : l.count ≤ l.byte;
}
