use Rattle.std.proofs.Common.{ℕ, ◌<◌}
use Rattle.std.specs.Prelude.{IsTrue, Contains}
use Rattle.lx_spec.specs.Graph.{is_marked}
use Rattle.lx_spec.proofs.graph.numbers_of.Given as goal

abbrev pub invariant-loop-i : goal.invariant-loop-i
invariant-loop-i l = record {
  only : (k : ℕ) → Contains l.numbers.items k → IsTrue (is_marked l.marks k);
  all : (k : ℕ) → k < l.i → IsTrue (is_marked l.marks k) → Contains l.numbers.items k;
}
