-- One state more gets a number.
use Rattle.std.proofs.Common.{◌≡◌, ◌≢◌, ℕ, zero, suc, ◌+◌, ◌-◌, ◌<◌, ◌≤◌, List, [], ◌∷◌, ◌++◌, length, slice_index, set, replicate, refl, sym, ◌∙◌, ap, arith, inl, inr}
use Rattle.std.proofs.lemmas.Bool.{cases_eq, cases_lt}
use Rattle.std.proofs.lemmas.List.{get_or-set_same, get_or-set_other, get_or_append_left, get_or_push, length_push, length-set}
use Rattle.lx_automaton.specs.Numbered.{zeros, AreMet, AreAllMet}
use Rattle.lx_automaton.proofs.EncodedLists.{different}

zeros_set : (xs : List ℕ) (i v : ℕ) → i < length xs → slice_index xs i ≡ 0 → v ≢ 0 → zeros (set xs i v) + 1 ≡ zeros xs
zeros_set [] i v l e ne = absurd (omega arith)
zeros_set (x ∷ xs) zero v l e ne = rw (e, different v 0 ne) (omega arith)
zeros_set (x ∷ xs) (suc i) v l e ne = let h = zeros_set xs i v (omega arith) e ne in omega arith

pub zeros_fresh : (n : ℕ) → zeros (replicate n 0) ≡ n
zeros_fresh zero = refl
zeros_fresh (suc n) = let h = zeros_fresh n in omega arith

zeros_none : (xs : List ℕ) → ((k : ℕ) → k < length xs → slice_index xs k ≢ 0) → zeros xs ≡ 0
zeros_none [] h = refl
zeros_none (x ∷ xs) h = let r = zeros_none xs (λ k l. h (suc k) (omega arith)) in rw (different x 0 (h 0 (omega arith))) (omega arith)

at_0 : (n k : ℕ) → slice_index (replicate n 0) k ≡ 0
at_0 zero k = refl
at_0 (suc n) zero = refl
at_0 (suc n) (suc k) = at_0 n k

len_0 : (n : ℕ) → length {A = ℕ} (replicate n 0) ≡ n
len_0 zero = refl
len_0 (suc n) = ap suc (len_0 n)

pub none_met : (n : ℕ) → AreMet [] (replicate n 0)
none_met n = record {
  room = (let a = zeros_fresh n in let b = len_0 n in omega arith);
  below = λ i l. absurd (omega arith);
  placed = λ i l. absurd (omega arith);
  within = λ s l ne. absurd (ne (at_0 n s));
  found = λ s l ne. absurd (ne (at_0 n s));
}

pub few_met : (states encoded_options : List ℕ) → AreMet states encoded_options → length states ≤ length encoded_options
few_met states encoded_options are = (let r = are.room in omega arith)

-- if a state has no number, there is room for it
pub room_for : (states encoded_options : List ℕ) (s : ℕ) → AreMet states encoded_options → s < length encoded_options → slice_index encoded_options s ≡ 0 → length states < length encoded_options
room_for states encoded_options s are l e = (let r = are.room in let z = zeros_set encoded_options s 1 l e (λ f. absurd (omega arith)) in omega arith)

pub one_met : (states encoded_options : List ℕ) (s v : ℕ) → AreMet states encoded_options → s < length encoded_options → slice_index encoded_options s ≡ 0 → v ≡ length states + 1 →
    AreMet (states ++ s ∷ []) (set encoded_options s v)
one_met states encoded_options s v are l e is =
    let longer : length (states ++ s ∷ []) ≡ length states + 1 = length_push states s in
    let same : length (set encoded_options s v) ≡ length encoded_options = length-set encoded_options s v in
    let here : slice_index (set encoded_options s v) s ≡ v = get_or-set_same encoded_options s v 0 l in
    let last : slice_index (states ++ s ∷ []) (length states) ≡ s = get_or_push states s 0 (length states) refl in
    record {
      room = (let r = are.room in let z = zeros_set encoded_options s v l e (omega arith) in omega arith);
      below = λ i h. elim (cases_lt i (length states)) [
        | inl k ↦ let f = get_or_append_left states (s ∷ []) 0 i k in let b = are.below i k in omega arith
        | inr k ↦ let f : slice_index (states ++ s ∷ []) i ≡ s = get_or_push states s 0 i (omega arith) in omega arith
      ];
      placed = λ i h. elim (cases_lt i (length states)) [
        | inl k ↦ let f : slice_index (states ++ s ∷ []) i ≡ slice_index states i = get_or_append_left states (s ∷ []) 0 i k in
            let p = are.placed i k in
            ap (λ t. slice_index (set encoded_options s v) t) f ∙ get_or-set_other encoded_options s (slice_index states i) v 0 (λ g. let q : slice_index encoded_options (slice_index states i) ≡ 0 = ap (λ t. slice_index encoded_options t) g ∙ e in absurd (omega arith)) ∙ p
        | inr k ↦ let n : i ≡ length states = omega arith in
            ap (λ t. slice_index (set encoded_options s v) (slice_index (states ++ s ∷ []) t)) n ∙ ap (λ t. slice_index (set encoded_options s v) t) last ∙ here ∙ is ∙ ap (λ t. t + 1) (sym n)
      ];
      within = λ t h ne. elim (cases_eq t s) [
        | inl g ↦ let f : slice_index (set encoded_options s v) t ≡ v = ap (λ u. slice_index (set encoded_options s v) u) g ∙ here in omega arith
        | inr g ↦ let f : slice_index (set encoded_options s v) t ≡ slice_index encoded_options t = get_or-set_other encoded_options s t v 0 g in
            let w = are.within t (omega arith) (λ z. ne (f ∙ z)) in omega arith
      ];
      found = λ t h ne. elim (cases_eq t s) [
        | inl g ↦ let f : slice_index (set encoded_options s v) t ≡ v = ap (λ u. slice_index (set encoded_options s v) u) g ∙ here in
            let n : slice_index (set encoded_options s v) t - 1 ≡ length states = omega arith in
            ap (λ u. slice_index (states ++ s ∷ []) u) n ∙ last ∙ sym g
        | inr g ↦ let f : slice_index (set encoded_options s v) t ≡ slice_index encoded_options t = get_or-set_other encoded_options s t v 0 g in
            let w = are.within t (omega arith) (λ z. ne (f ∙ z)) in
            let p : slice_index encoded_options t - 1 < length states = (let q : slice_index encoded_options t ≢ 0 = λ z. ne (f ∙ z) in omega arith) in
            ap (λ u. slice_index (states ++ s ∷ []) (u - 1)) f ∙ get_or_append_left states (s ∷ []) 0 (slice_index encoded_options t - 1) p ∙ are.found t (omega arith) (λ z. ne (f ∙ z))
      ];
    }

-- a state that has a number keeps one
pub one_kept : (encoded_options : List ℕ) (s v : ℕ) → s < length encoded_options → v ≢ 0 → (t : ℕ) → slice_index encoded_options t ≢ 0 → slice_index (set encoded_options s v) t ≢ 0
one_kept encoded_options s v l ne t h f = elim (cases_eq t s) [
  | inl g ↦ ne (sym (ap (λ u. slice_index (set encoded_options s v) u) g ∙ get_or-set_same encoded_options s v 0 l) ∙ f)
  | inr g ↦ h (sym (get_or-set_other encoded_options s t v 0 g) ∙ f)
]

-- once all were met, the list has all states
pub all_met : (states encoded_options : List ℕ) → AreAllMet states encoded_options → length states ≡ length encoded_options
all_met states encoded_options are = (let r = are.met.room in let z = zeros_none encoded_options are.each in omega arith)
