use Rattle.std.proofs.Common.{◌≡◌, ◌≤◌, drop}
use Rattle.lx_spec.specs.Constants as plain
use Rattle.lx_spec.proofs.constant.decimal_below.Given as goal

abbrev pub invariant-loop-c : goal.invariant-loop-c
invariant-loop-c l = record {
  same : plain.decimal_behind l.number (drop l.c-index l.digits) ≡ plain.decimal_of l.digits;
  small : l.number ≤ l.limit;
}
