use Rattle.std.proofs.Common.{◌≡◌, ◌<◌, ℕ, vec_len, get_or}
use Rattle.std.specs.Prelude.{IsTrue, Contains}
use Rattle.lx_spec.specs.Graph.{is_marked}
use Rattle.lx_spec.proofs.reach.marks_at.Given as goal

abbrev pub invariant-loop-j : goal.invariant-loop-j
invariant-loop-j l = record {
  len : vec_len l.marks ≡ l.count;
  all : (k : ℕ) → k < l.j-index → IsTrue (is_marked l.marks.items (get_or l.numbers k 0));
  only : (i : ℕ) → IsTrue (is_marked l.marks.items i) → Contains l.numbers i;
}
