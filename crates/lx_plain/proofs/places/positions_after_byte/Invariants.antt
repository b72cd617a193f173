use Rattle.std.proofs.Common.{◌≡◌, ℕ, ◌+◌, false, ◌&&◌, map}
use Rattle.std.specs.Ordering.{nat_cmp}
use Rattle.std.specs.BTreeSet.{contains}
use Rattle.std.specs.Map.Iter.{deref}
use Rattle.lx_plain.specs.Places.{is_byte_at}
use Rattle.lx_plain.proofs.SetLemmas.{has}
use Rattle.lx_plain.proofs.places.positions_after_byte.Given as goal

abbrev pub invariant-loop-start : goal.invariant-loop-start
invariant-loop-start l = record {
  first : contains nat_cmp l.ends 0 ≡ false;
  next : (i : ℕ) → contains nat_cmp l.ends (i + 1) ≡ (has (map deref l.yielded) i && is_byte_at l.set l.text i);
}
