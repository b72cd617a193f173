use Rattle.std.proofs.Common.{◌<◌, ℕ, slice_index}
use Rattle.lx_automaton.specs.Classing.{HasSameColumns}
use Rattle.lx_automaton.proofs.classes.number_for.Given as goal

abbrev pub invariant-loop-number : goal.invariant-loop-number
invariant-loop-number l = (j : ℕ) → j < l.number → HasSameColumns l.draft (slice_index l.representatives j) l.class → ⊥
