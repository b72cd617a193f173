use Rattle.std.proofs.Common.{◌≡◌, ℕ, true, length, drop}
use Rattle.std.specs.Prelude.{Contains}
use Rattle.lx_auto.specs.Marking.{flag}
use Rattle.lx_auto.proofs.sets.set_steps.unmark.Given as goal

abbrev pub invariant-loop-q : goal.invariant-loop-q
invariant-loop-q l = record {
  long : length l.flags.items ≡ length l.fn.flags.items;
  left : ((q : ℕ) → flag l.fn.flags.items q ≡ true → Contains l.set q) → (q : ℕ) → flag l.flags.items q ≡ true → Contains (drop l.q-index l.set) q;
}
