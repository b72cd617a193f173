use Rattle.std.proofs.Common.{◌≡◌, ℕ, ◌+◌, ◌∷◌, [], ◌∙◌, subst, sym, true, map}
use Rattle.std.specs.Map.Iter.{deref}
use Rattle.std.specs.BTreeSet.{contains}
use Rattle.std.specs.Ordering.{nat_cmp}
use Rattle.std.proofs.lemmas.List.{map-append}
use Rattle.lx_plain.specs.Places.{is_byte_at}
use Rattle.lx_plain.proofs.SetLemmas.{next_more, first_more}
use Rattle.lx_plain.proofs.places.positions_after_byte.Goals as goal

pub loop-start-preserved-in_ok-insert : goal.loop-start-preserved-in_ok-insert
loop-start-preserved-in_ok-insert c =
    let added = c.in_ok-insert.ensures.updates in
    let fits : is_byte_at c.args.set.now c.args.text.now c.in-Some.start.now ≡ true = sym c.has_byte_at.ensures ∙ c.if-has_byte_at.true in
    record {
      first = first_more c.in-Some.start.now (contains nat_cmp c.loop-start.ends 0) (contains nat_cmp c.insert.new.self 0) (added.0 0) c.loop-start.invariant.first;
      next = λ i. rw (map-append (deref {X = ℕ}) c.loop-start.yielded (c.in-Some.start ∷ []))
          (next_more c.in-Some.start.now i (map (deref {X = ℕ}) c.loop-start.yielded) (is_byte_at c.args.set.now c.args.text.now i) (contains nat_cmp c.loop-start.ends (i + 1)) (contains nat_cmp c.insert.new.self (i + 1))
          (added.0 (i + 1)) (c.loop-start.invariant.next i) (λ e. subst (λ k. is_byte_at c.args.set.now c.args.text.now k ≡ true) (sym e) fits));
    }
