use Rattle.std.proofs.Common.{◌≡◌, ◌+◌, ℕ, ◌||◌, ◌&&◌, not, map}
use Rattle.std.specs.Ordering.{nat_cmp}
use Rattle.std.specs.BTreeSet.{contains, btree_set_len, IsOrdered}
use Rattle.std.specs.Map.Iter.{deref}
use Rattle.lx_plain.proofs.SetLemmas.{has}
use Rattle.lx_plain.proofs.places.add_new.Given as goal

abbrev pub invariant-loop-place : goal.invariant-loop-place
invariant-loop-place l = record {
  all : (j : ℕ) → contains nat_cmp l.places j ≡ (contains nat_cmp l.fn.places j || has (map deref l.yielded) j);
  ordered : IsOrdered nat_cmp l.places;
  count : btree_set_len l.places ≡ btree_set_len l.fn.places + btree_set_len l.fresh;
  new : (j : ℕ) → contains nat_cmp l.fresh j ≡ (has (map deref l.yielded) j && not (contains nat_cmp l.fn.places j));
}
