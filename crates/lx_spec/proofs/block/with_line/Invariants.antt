use Rattle.std.proofs.Common.{◌≡◌, ◌+◌, ◌≤◌, drop}
use Rattle.lx_spec.specs.Blocks as plain
use Rattle.lx_spec.proofs.block.with_line.Given as goal

abbrev pub invariant-loop-c : goal.invariant-loop-c
invariant-loop-c l = record {
  same : plain.with_bytes l.so_far (drop l.c-index l.line) ≡ plain.with_bytes l.fn.count l.line;
  opened : l.so_far.opened ≤ l.fn.count.opened + l.c-index;
  closed : l.so_far.closed ≤ l.fn.count.closed + l.c-index;
}
