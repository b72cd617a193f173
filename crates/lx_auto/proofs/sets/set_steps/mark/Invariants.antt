use Rattle.std.proofs.Common.{◌≡◌, ℕ, ◌<◌, length, take}
use Rattle.lx_auto.specs.Marking.{flag}
use Rattle.lx_auto.specs.Members.{has_member}
use Rattle.lx_auto.proofs.sets.set_steps.mark.Given as goal

abbrev pub invariant-loop-q : goal.invariant-loop-q
invariant-loop-q l = record {
  long : length l.marks.items ≡ length l.fn.marks.items;
  marks : (q : ℕ) → q < length l.fn.marks.items → flag l.marks.items q ≡ has_member (take l.q-index l.set) q;
}
