-- One number more is met.
use Rattle.std.proofs.Common.{◌≡◌, ◌≢◌, ℕ, zero, suc, ◌+◌, ◌-◌, ◌<◌, ◌≤◌, List, [], ◌∷◌, ◌++◌, length, slice_index, set, replicate, eqb, false, ◌⊎◌, refl, sym, ◌∙◌, ap, arith, inl, inr}
use Rattle.std.proofs.lemmas.Bool.{cases_eq, cases_lt}
use Rattle.std.proofs.lemmas.List.{get_or-set_same, get_or-set_other, get_or_append_left, get_or_push, length_push, length-set}
use Rattle.std.proofs.lemmas.Bool.Decides.{eqb_tells}
use Rattle.lx_reach.specs.Reached.{zeros, AreMet}

different : (a b : ℕ) → a ≢ b → eqb a b ≡ false
different a b ne = elim (eqb_tells a b) [ inl t ↦ absurd (ne t.1) | inr t ↦ t.0 ]

zeros_set : (xs : List ℕ) (i v : ℕ) → i < length xs → slice_index xs i ≡ 0 → v ≢ 0 → zeros (set xs i v) + 1 ≡ zeros xs
zeros_set [] i v l e ne = absurd (omega arith)
zeros_set (x ∷ xs) zero v l e ne = rw (e, different v 0 ne) (omega arith)
zeros_set (x ∷ xs) (suc i) v l e ne = let h = zeros_set xs i v (omega arith) e ne in omega arith

pub zeros_fresh : (n : ℕ) → zeros (replicate n 0) ≡ n
zeros_fresh zero = refl
zeros_fresh (suc n) = let h = zeros_fresh n in omega arith

at_0 : (n k : ℕ) → slice_index (replicate n 0) k ≡ 0
at_0 zero k = refl
at_0 (suc n) zero = refl
at_0 (suc n) (suc k) = at_0 n k

len_0 : (n : ℕ) → length {A = ℕ} (replicate n 0) ≡ n
len_0 zero = refl
len_0 (suc n) = ap suc (len_0 n)

pub none_met : (n : ℕ) → AreMet [] (replicate n 0)
none_met n = record {
  room = (let a = zeros_fresh n in let b = len_0 n in omega arith);
  below = λ i l. absurd (omega arith);
  placed = λ i l. absurd (omega arith);
  within = λ s l ne. absurd (ne (at_0 n s));
  found = λ s l ne. absurd (ne (at_0 n s));
}

pub few_met : (states words : List ℕ) → AreMet states words → length states ≤ length words
few_met states words are = (let r = are.room in omega arith)

-- if a state has no number, there is room for it
pub room_for : (states words : List ℕ) (s : ℕ) → AreMet states words → s < length words → slice_index words s ≡ 0 → length states < length words
room_for states words s are l e = (let r = are.room in let z = zeros_set words s 1 l e (λ f. absurd (omega arith)) in omega arith)

pub one_met : (states words : List ℕ) (s v : ℕ) → AreMet states words → s < length words → slice_index words s ≡ 0 → v ≡ length states + 1 →
    AreMet (states ++ s ∷ []) (set words s v)
one_met states words s v are l e is =
    let longer : length (states ++ s ∷ []) ≡ length states + 1 = length_push states s in
    let same : length (set words s v) ≡ length words = length-set words s v in
    let here : slice_index (set words s v) s ≡ v = get_or-set_same words s v 0 l in
    let last : slice_index (states ++ s ∷ []) (length states) ≡ s = get_or_push states s 0 (length states) refl in
    record {
      room = (let r = are.room in let z = zeros_set words s v l e (omega arith) in omega arith);
      below = λ i h. elim (cases_lt i (length states)) [
        | inl k ↦ let f = get_or_append_left states (s ∷ []) 0 i k in let b = are.below i k in omega arith
        | inr k ↦ let f : slice_index (states ++ s ∷ []) i ≡ s = get_or_push states s 0 i (omega arith) in omega arith
      ];
      placed = λ i h. elim (cases_lt i (length states)) [
        | inl k ↦ let f : slice_index (states ++ s ∷ []) i ≡ slice_index states i = get_or_append_left states (s ∷ []) 0 i k in
            let p = are.placed i k in
            ap (λ t. slice_index (set words s v) t) f ∙ get_or-set_other words s (slice_index states i) v 0 (λ g. let q : slice_index words (slice_index states i) ≡ 0 = ap (λ t. slice_index words t) g ∙ e in absurd (omega arith)) ∙ p
        | inr k ↦ let n : i ≡ length states = omega arith in
            ap (λ t. slice_index (set words s v) (slice_index (states ++ s ∷ []) t)) n ∙ ap (λ t. slice_index (set words s v) t) last ∙ here ∙ is ∙ ap (λ t. t + 1) (sym n)
      ];
      within = λ t h ne. elim (cases_eq t s) [
        | inl g ↦ let f : slice_index (set words s v) t ≡ v = ap (λ u. slice_index (set words s v) u) g ∙ here in omega arith
        | inr g ↦ let f : slice_index (set words s v) t ≡ slice_index words t = get_or-set_other words s t v 0 g in
            let w = are.within t (omega arith) (λ z. ne (f ∙ z)) in omega arith
      ];
      found = λ t h ne. elim (cases_eq t s) [
        | inl g ↦ let f : slice_index (set words s v) t ≡ v = ap (λ u. slice_index (set words s v) u) g ∙ here in
            let n : slice_index (set words s v) t - 1 ≡ length states = omega arith in
            ap (λ u. slice_index (states ++ s ∷ []) u) n ∙ last ∙ sym g
        | inr g ↦ let f : slice_index (set words s v) t ≡ slice_index words t = get_or-set_other words s t v 0 g in
            let w = are.within t (omega arith) (λ z. ne (f ∙ z)) in
            let p : slice_index words t - 1 < length states = (let q : slice_index words t ≢ 0 = λ z. ne (f ∙ z) in omega arith) in
            ap (λ u. slice_index (states ++ s ∷ []) (u - 1)) f ∙ get_or_append_left states (s ∷ []) 0 (slice_index words t - 1) p ∙ are.found t (omega arith) (λ z. ne (f ∙ z))
      ];
    }

-- a state that has a number keeps one
pub one_kept : (words : List ℕ) (s v : ℕ) → s < length words → v ≢ 0 → (t : ℕ) → slice_index words t ≢ 0 → slice_index (set words s v) t ≢ 0
one_kept words s v l ne t h f = elim (cases_eq t s) [
  | inl g ↦ ne (sym (ap (λ u. slice_index (set words s v) u) g ∙ get_or-set_same words s v 0 l) ∙ f)
  | inr g ↦ h (sym (get_or-set_other words s t v 0 g) ∙ f)
]

-- no other state gets one
pub one_only : (words : List ℕ) (s v t : ℕ) → slice_index (set words s v) t ≢ 0 → (slice_index words t ≢ 0) ⊎ (t ≡ s)
one_only words s v t h = elim (cases_eq t s) [
  | inl g ↦ inr g
  | inr g ↦ inl (λ z. h (get_or-set_other words s t v 0 g ∙ z))
]

-- a state that has a number is in the list
pub known : (words : List ℕ) (s : ℕ) → slice_index words s ≢ 0 → s < length words
known [] s h = absurd (h refl)
known (w ∷ words) zero h = omega arith
known (w ∷ words) (suc s) h = let l = known words s h in omega arith

pub none_at : (n k : ℕ) → slice_index (replicate n 0) k ≡ 0
none_at = at_0
