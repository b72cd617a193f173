use Rattle.std.proofs.Common.{◌-◌, ◌≤◌, All, length}
use Rattle.lx_reach.specs.Takers.{IsPair}
use Rattle.lx_reach.proofs.takers.search_pairs.Given as goal

abbrev pub invariant-loop-place : goal.invariant-loop-place
invariant-loop-place l = record {
  pairs : All (IsPair l.alone.machine l.all.machine) l.search.pairs.items;
  few : length l.search.pairs.items ≤ 20000;
}

abbrev pub decreases-loop-place : goal.decreases-loop-place
decreases-loop-place l = 20000 - l.place
