use Rattle.std.proofs.Common.{◌≤◌, All, length}
use Rattle.lx_reach.specs.Takers.{IsPair}
use Rattle.lx_reach.proofs.takers.meet_next.Given as goal

abbrev pub invariant-loop-byte : goal.invariant-loop-byte
invariant-loop-byte l = record {
  pairs : All (IsPair l.alone.machine l.all.machine) l.search.pairs.items;
  few : length l.search.pairs.items ≤ 20000;
  more : length l.fn.search.pairs.items ≤ length l.search.pairs.items;
}
