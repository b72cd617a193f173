use Rattle.std.proofs.Common.{◌≡◌, ℕ, ◌<◌, get_or, false}
use Rattle.lx_spec.specs.Graph.{is_marked}
use Rattle.lx_spec.proofs.definition_faults.any_marked.Given as goal

abbrev pub invariant-loop-j : goal.invariant-loop-j
invariant-loop-j l = (k : ℕ) → k < l.j-index → is_marked l.marks (get_or l.numbers k 0) ≡ false
