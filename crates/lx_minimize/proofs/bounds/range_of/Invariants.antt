use Rattle.std.proofs.Common.{◌<◌, ◌≤◌, ℕ, slice_index}
use Rattle.lx_minimize.proofs.bounds.range_of.Given as goal

abbrev pub invariant-loop-i : goal.invariant-loop-i
invariant-loop-i l = record {
  low : (j : ℕ) → j < l.i → l.low ≤ slice_index l.states j;
  high : (j : ℕ) → j < l.i → slice_index l.states j ≤ l.high;
}
