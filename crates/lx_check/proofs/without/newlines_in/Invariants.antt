use Rattle.std.proofs.Common.{◌≡◌, ◌+◌, ◌≤◌, drop}
use Rattle.lx_scan.specs.Steps.{newlines}
use Rattle.lx_check.proofs.without.newlines_in.Given as goal

abbrev pub invariant-loop-byte : goal.invariant-loop-byte
invariant-loop-byte l = record {
  rest : l.count + newlines (drop l.byte-index l.action) ≡ newlines l.action;
  few : l.count ≤ l.byte-index;
}
