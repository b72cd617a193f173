-- The growth of the map of the sets' numbers.
use Rattle.std.proofs.Common.{◌≡◌, ◌≢◌, ℕ, zero, suc, ◌<◌, ◌⊎◌, List, [], ◌∷◌, ◌++◌, length, get_or, Some, None, Bool, true, false, cond, nat_eq, refl, sym, ◌∙◌, ap, arith, inl, inr}
use Rattle.std.specs.Prelude.{slice_get}
use Rattle.std.proofs.lemmas.Option.{slice_get-get_or, slice_get_within}
use Rattle.std.specs.Cmp.Lexicographic.{pointwise, bytes_decides}
use Rattle.std.specs.HashMap.{get, get_by}
use Rattle.lx_auto.specs.SetTable.{Positions, words_of, set_of, Numbers, same, IsNumbering}
use Rattle.lx_auto.proofs.SetLists.{length_push, set_of_last, set_of_kept}

pub get_along : (m : Numbers) (s t : Positions) → s.items ≡ t.items → get same m s ≡ get same m t
get_along m s t e = ap (λ l. get_by (λ (w : Positions). pointwise nat_eq l w.items) m) e

pub absent : (sets : List Positions) (m : Numbers) (s : Positions) → IsNumbering sets m → get same m s ≡ None → (i : ℕ) → i < length sets → set_of sets i ≢ s.items
absent sets m s is none i h e =
    let at = slice_get-get_or sets i s h in
    let x = get_or sets i s in
    let k = is.known i x at in
    let f : x.items ≡ s.items = sym (ap words_of at) ∙ e in
    let g = get_along m x s f in
    absurd (cc)

slice_get_push : (xs : List Positions) (x s : Positions) (i : ℕ) → slice_get (xs ++ x ∷ []) i ≡ Some s → (slice_get xs i ≡ Some s) ⊎ ((i ≡ length xs) × (s ≡ x))
slice_get_push [] x s zero e = inr (refl, (cc))
slice_get_push [] x s (suc i) e = absurd (cc)
slice_get_push (y ∷ xs) x s zero e = inl e
slice_get_push (y ∷ xs) x s (suc i) e = elim (slice_get_push xs x s i e) [ inl h ↦ inl h | inr h ↦ inr (ap suc h.0, h.1) ]

is_false : (b : Bool) → (b ≡ true → ⊥) → b ≡ false
is_false true h = absurd (h refl)
is_false false h = refl

pub numbering_after : (sets : List Positions) (old new : Numbers) (set key : Positions) (n : ℕ) → IsNumbering sets old → get same old set ≡ None →
    key.items ≡ set.items → n ≡ length sets → ((q : Positions) → get same new q ≡ cond (same key q) (Some n) (get same old q)) →
    IsNumbering (sets ++ set ∷ []) new
numbering_after sets old new set key n is none e f update = record {
  known = λ i s at. elim (slice_get_push sets set s i at) [
    | inl h ↦ let l = slice_get_within sets i s h in
        let other : same key s ≡ false = differs key s (λ g. absent sets old set is none i l (ap words_of h ∙ sym g ∙ e)) in
        update s ∙ ap (λ b. cond b (Some n) (get same old s)) other ∙ is.known i s h
    | inr h ↦ let hit : same key s ≡ true = (bytes_decides key.items s.items).1 (e ∙ ap (λ (x : Positions). x.items) (sym h.1)) in
        update s ∙ ap (λ b. cond b (Some n) (get same old s)) hit ∙ ap Some (f ∙ sym h.0)
  ];
  numbered = λ s i at. decided s i at (same key s) refl;
}
  where
    differs : (v w : Positions) → v.items ≢ w.items → same v w ≡ false
    differs v w ne = is_false (same v w) (λ h. ne ((bytes_decides v.items w.items).0 h))

    decided : (s : Positions) (i : ℕ) → get same new s ≡ Some i → (b : Bool) → same key s ≡ b → (i < length (sets ++ set ∷ [])) × (set_of (sets ++ set ∷ []) i ≡ s.items)
    decided s i at true h =
        let g : Some i ≡ Some n = sym at ∙ update s ∙ ap (λ b. cond b (Some n) (get same old s)) h in
        let j : i ≡ n = cc in
        let l = length_push sets set in
        (omega arith, rw (j, f) (set_of_last sets set ∙ sym e ∙ (bytes_decides key.items s.items).0 h))
    decided s i at false h =
        let g : get same old s ≡ Some i = sym (update s ∙ ap (λ b. cond b (Some n) (get same old s)) h) ∙ at in
        let r = is.numbered s i g in
        let l = length_push sets set in
        (omega arith, set_of_kept sets set i r.0 ∙ r.1)
