use Rattle.std.proofs.Common.{◌≤◌, All, length}
use Rattle.lx_reach.specs.Takers.{IsPair}
use Rattle.lx_reach.proofs.takers.meet_starts.Given as goal

abbrev pub invariant-loop-condition : goal.invariant-loop-condition
invariant-loop-condition l = record {
  pairs : All (IsPair l.alone.machine l.all.machine) l.search.pairs.items;
  few : length l.search.pairs.items ≤ 20000;
}
