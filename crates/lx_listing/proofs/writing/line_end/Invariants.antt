use Rattle.std.proofs.Common.{◌<◌, ◌≤◌, ◌-◌, length}
use Rattle.lx_listing.proofs.writing.line_end.Given as goal

abbrev pub invariant-loop-end : goal.invariant-loop-end
invariant-loop-end l = record {
  later : l.from ≤ l.end;
  within : l.end < length l.block;
}

abbrev pub decreases-loop-end : goal.decreases-loop-end
decreases-loop-end l = length l.block - l.end
