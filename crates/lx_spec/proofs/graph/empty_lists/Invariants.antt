use Rattle.std.proofs.Common.{◌≡◌, ℕ, [], vec_len}
use Rattle.lx_spec.specs.Graph.{list_at}
use Rattle.lx_spec.proofs.graph.empty_lists.Given as goal

abbrev pub invariant-loop : goal.invariant-loop
invariant-loop l = record {
  len : vec_len l.lists ≡ l.counter;
  empty : (j : ℕ) → list_at l.lists.items j ≡ [];
}
