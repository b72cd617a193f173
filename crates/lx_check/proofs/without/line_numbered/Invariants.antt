use Rattle.std.proofs.Common.{◌≡◌, ◌+◌, ◌≤◌, length}
use Rattle.lx_spec.specs.Bytes.{lines}
use Rattle.lx_check.specs.Without.{line_numbered}
use Rattle.lx_check.proofs.without.line_numbered.Given as goal

abbrev pub invariant-loop-found : goal.invariant-loop-found
invariant-loop-found l = record {
  same : line_numbered l.number l.fn.line l.lines ≡ line_numbered 1 l.fn.line (lines l.fn.text);
  few : l.number + length l.lines ≤ length l.fn.text + 1;
}

abbrev pub decreases-loop-found : goal.decreases-loop-found
decreases-loop-found l = length l.lines
