use Rattle.std.proofs.Common.{◌≡◌, ◌+◌, ◌≤◌, ◌++◌, length}
use Rattle.lx_check.specs.Without.{lines_instead, text_instead}
use Rattle.lx_check.proofs.without.text_instead.Given as goal

abbrev pub invariant-loop-line : goal.invariant-loop-line
invariant-loop-line l = record {
  same : l.made.items ++ lines_instead l.this l.fn.first l.fn.end l.number l.lines ≡ text_instead l.fn.this l.fn.first l.fn.end l.fn.text;
  few : l.number + length l.lines ≤ length l.fn.text + 1;
}

abbrev pub decreases-loop-line : goal.decreases-loop-line
decreases-loop-line l = length l.lines
