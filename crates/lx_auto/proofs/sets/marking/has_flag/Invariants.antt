use Rattle.std.proofs.Common.{◌≡◌, ℕ, ◌<◌, ◌≤◌, false}
use Rattle.lx_auto.specs.Marking.{flag}
use Rattle.lx_auto.proofs.sets.marking.has_flag.Given as goal

abbrev pub invariant-loop-i : goal.invariant-loop-i
invariant-loop-i l = l.found ≡ false → (q : ℕ) → l.from ≤ q → q < l.i → flag l.flags q ≡ false
