-- One byte more is numbered.
use Rattle.std.proofs.Common.{◌≡◌, ℕ, ◌+◌, ◌<◌, ◌==◌, ◌&&◌, nat_lt, Bool, true, false, IsTrue, List, [], ◌∷◌, ◌++◌, length, slice_index, refl, sym, ◌∙◌, ap, subst, arith, inl, inr}
use Rattle.std.proofs.lemmas.Bool.{cases_lt}
use Rattle.std.proofs.lemmas.Bool.Decides.{eqb_tells, nat_tests}
use Rattle.std.proofs.lemmas.List.{get_or_append_left, get_or_push, length_push}
use Rattle.lx_automaton.specs.Automata.{Machine, are_numbered}
use Rattle.lx_automaton.specs.Classing.{HasSameColumns, AreNumbersBelow}

pub same_turned : (m : Machine) (c d : ℕ) → HasSameColumns m c d → HasSameColumns m d c
same_turned m c d h = record { same = λ s l. sym (h.same s l) }

pub same_joined : (m : Machine) (c d e : ℕ) → HasSameColumns m c d → HasSameColumns m d e → HasSameColumns m c e
same_joined m c d e h k = record { same = λ s l. h.same s l ∙ k.same s l }

and_map : (b x y : Bool) → (IsTrue x → IsTrue y) → IsTrue (b && x) → IsTrue (b && y)
and_map true x y f h = f h
and_map false x y f h = h

numbered_below : (seen w n : ℕ) (ns : List ℕ) → n < w → IsTrue (are_numbered seen w ns) → IsTrue (are_numbered seen w (ns ++ n ∷ []))
numbered_below seen w n [] l h = at_end seen w n l h
  where
    at_end : (seen w n : ℕ) → n < w → IsTrue (seen == w) → IsTrue (are_numbered seen w (n ∷ []))
    at_end seen w n l h = grind (arith, nat_tests)
numbered_below seen w n (class ∷ more) l h = elim (eqb_tells class seen) [
  | inl t ↦ rw t.0 (numbered_below (seen + 1) w n more l (rw t.0 at h))
  | inr t ↦ rw t.0 (and_map (nat_lt class seen) _ _ (numbered_below seen w n more l) (rw t.0 at h))
]

numbered_next : (seen w : ℕ) (ns : List ℕ) → IsTrue (are_numbered seen w ns) → IsTrue (are_numbered seen (w + 1) (ns ++ w ∷ []))
numbered_next seen w [] h = at_end seen w h
  where
    at_end : (seen w : ℕ) → IsTrue (seen == w) → IsTrue (are_numbered seen (w + 1) (w ∷ []))
    at_end seen w h = grind (arith, nat_tests)
numbered_next seen w (class ∷ more) h = elim (eqb_tells class seen) [
  | inl t ↦ rw t.0 (numbered_next (seen + 1) w more (rw t.0 at h))
  | inr t ↦ rw t.0 (and_map (nat_lt class seen) _ _ (numbered_next seen w more) (rw t.0 at h))
]

pub add_known : (m : Machine) (n number : ℕ) (ns rs : List ℕ) → AreNumbersBelow m n ns rs → number < length rs →
    HasSameColumns m (slice_index rs number) (slice_index m.classes n) → AreNumbersBelow m (n + 1) (ns ++ number ∷ []) rs
add_known m n number ns rs are l same = record {
  long = length_push ns number ∙ ap (λ x. x + 1) are.long;
  few = (let f = are.few in omega arith);
  classes = are.classes;
  each = λ b h. elim (cases_lt b n) [
    | inl k ↦ let e : slice_index (ns ++ number ∷ []) b ≡ slice_index ns b = get_or_append_left ns (number ∷ []) 0 b (let g = are.long in omega arith) in
        let c = are.each b k in
        record { below = rw e c.below; columns = rw e c.columns }
    | inr k ↦ let i : b ≡ n = omega arith in
        let e : slice_index (ns ++ number ∷ []) b ≡ number = get_or_push ns number 0 b (are.long ∙ sym i) in
        record { below = rw e l; columns = rw (e, i) same }
  ];
  apart = are.apart;
  numbered = numbered_below 0 (length rs) number ns l are.numbered;
}

pub add_new : (m : Machine) (n class : ℕ) (ns rs : List ℕ) → AreNumbersBelow m n ns rs → class ≡ slice_index m.classes n → class < m.width →
    ((j : ℕ) → j < length rs → HasSameColumns m (slice_index rs j) class → ⊥) → AreNumbersBelow m (n + 1) (ns ++ length rs ∷ []) (rs ++ class ∷ [])
add_new m n class ns rs are is l none =
    let long : length (rs ++ class ∷ []) ≡ length rs + 1 = length_push rs class in
    let kept : (j : ℕ) → j < length rs → slice_index (rs ++ class ∷ []) j ≡ slice_index rs j = λ j h. get_or_append_left rs (class ∷ []) 0 j h in
    let last : slice_index (rs ++ class ∷ []) (length rs) ≡ class = get_or_push rs class 0 (length rs) refl in
    record {
      long = length_push ns (length rs) ∙ ap (λ x. x + 1) are.long;
      few = (let f = are.few in omega arith);
      classes = λ j h. elim (cases_lt j (length rs)) [
        | inl k ↦ rw (kept j k) (are.classes j k)
        | inr k ↦ let i : j ≡ length rs = omega arith in rw (i, last) l
      ];
      each = λ b h. elim (cases_lt b n) [
        | inl k ↦ let e : slice_index (ns ++ length rs ∷ []) b ≡ slice_index ns b = get_or_append_left ns (length rs ∷ []) 0 b (let g = are.long in omega arith) in
            let c = are.each b k in
            record { below = rw e (let g = c.below in omega arith); columns = rw (e, kept (slice_index ns b) c.below) c.columns }
        | inr k ↦ let i : b ≡ n = omega arith in
            let e : slice_index (ns ++ length rs ∷ []) b ≡ length rs = get_or_push ns (length rs) 0 b (are.long ∙ sym i) in
            record { below = rw e (omega arith); columns = rw (e, last, i, ← is) (record { same = λ s h. refl }) }
      ];
      apart = λ i j hi hj same. elim (cases_lt i (length rs)) [
        | inl ki ↦ elim (cases_lt j (length rs)) [
          | inl kj ↦ are.apart i j ki kj (rw (kept i ki, kept j kj) at same)
          | inr kj ↦ let e : j ≡ length rs = omega arith in absurd (none i ki (rw (kept i ki, e, last) at same))
        ]
        | inr ki ↦ elim (cases_lt j (length rs)) [
          | inl kj ↦ let e : i ≡ length rs = omega arith in absurd (none j kj (same_turned m class (slice_index rs j) (rw (e, last, kept j kj) at same)))
          | inr kj ↦ omega arith
        ]
      ];
      numbered = subst (λ w. IsTrue (are_numbered 0 w (ns ++ length rs ∷ []))) (sym long) (numbered_next 0 (length rs) ns are.numbered);
    }
