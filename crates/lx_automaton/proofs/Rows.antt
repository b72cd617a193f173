-- One entry more in the lists in another order.
use Rattle.std.proofs.Common.{◌≡◌, ℕ, ◌+◌, ◌*◌, ◌<◌, List, [], ◌∷◌, ◌++◌, slice_index, slice_index_or, sym, ◌∙◌, ap, arith, inl, inr}
use Rattle.std.proofs.lemmas.Bool.{cases_lt}
use Rattle.std.proofs.lemmas.List.{get_or_append_left, get_or_push, length_push}
use Rattle.std.proofs.lemmas.Nat.{row_fits}
use Rattle.lx_automaton.specs.Automata.{Machine, accepted_by, class_target}
use Rattle.lx_automaton.specs.EncodedOptions.{decoded_option}
use Rattle.lx_automaton.specs.Numbered.{AreStarts, AreAccepted, AreRows, encoded_option_of, rule_below}

pub same_row : (i j c d w : ℕ) → c < w → d < w → i * w + c ≡ j * w + d → (i ≡ j) × (c ≡ d)
same_row i j c d w hc hd e = elim (cases_lt i j) [
  | inl l ↦ let r = row_fits i w j w l (omega arith) in absurd (omega arith)
  | inr l ↦ elim (cases_lt j i) [
    | inl m ↦ let r = row_fits j w i w m (omega arith) in absurd (omega arith)
    | inr m ↦ let f : i ≡ j = omega arith in let g = ap (λ x. x * w) f in (f, omega arith)
  ]
]

pub start_push : (m : Machine) (encoded_options : List ℕ) (starts : List (ℕ × ℕ)) (n : ℕ) (y : ℕ × ℕ) → AreStarts m encoded_options starts n →
    y.0 + 1 ≡ slice_index encoded_options (slice_index_or m.starts n (0, 0)).0 → y.1 + 1 ≡ slice_index encoded_options (slice_index_or m.starts n (0, 0)).1 → AreStarts m encoded_options (starts ++ y ∷ []) (n + 1)
start_push m encoded_options starts n y are e f =
    let kept : (c : ℕ) → c < n → slice_index_or (starts ++ y ∷ []) c (0, 0) ≡ slice_index_or starts c (0, 0) =
    λ c h. get_or_append_left starts (y ∷ []) (0, 0) c (let g = are.long in omega arith) in
    let last : slice_index_or (starts ++ y ∷ []) n (0, 0) ≡ y = get_or_push starts y (0, 0) n are.long in
    record {
      long = length_push starts y ∙ ap (λ k. k + 1) are.long;
      elsewhere = λ c h. elim (cases_lt c n) [
        | inl k ↦ rw (kept c k) (are.elsewhere c k)
        | inr k ↦ let i : c ≡ n = omega arith in rw (i, last) e
      ];
      at_begin = λ c h. elim (cases_lt c n) [
        | inl k ↦ rw (kept c k) (are.at_begin c k)
        | inr k ↦ let i : c ≡ n = omega arith in rw (i, last) f
      ];
    }

pub accepted_push : (m : Machine) (rules : ℕ) (states accepted : List ℕ) (n x : ℕ) → AreAccepted m rules states accepted n →
    decoded_option x ≡ rule_below rules (accepted_by m (slice_index states n)) → AreAccepted m rules states (accepted ++ x ∷ []) (n + 1)
accepted_push m rules states accepted n x are e = record {
  long = length_push accepted x ∙ ap (λ k. k + 1) are.long;
  each = λ i h. elim (cases_lt i n) [
    | inl k ↦ rw (get_or_append_left accepted (x ∷ []) 0 i (let b = are.long in omega arith)) (are.each i k)
    | inr k ↦ let f : i ≡ n = omega arith in rw (f, get_or_push accepted x 0 n are.long) e
  ];
}

pub row_push : (m : Machine) (states encoded_options targets : List ℕ) (i c x : ℕ) → AreRows m states encoded_options targets (i * m.width + c) → c < m.width →
    x ≡ encoded_option_of encoded_options (class_target m (slice_index states i) c) → AreRows m states encoded_options (targets ++ x ∷ []) (i * m.width + (c + 1))
row_push m states encoded_options targets i c x are l e = record {
  long = (let a = length_push targets x in let b = are.long in omega arith);
  each = λ t k hk h. elim (cases_lt (t * m.width + k) (i * m.width + c)) [
    | inl j ↦ rw (get_or_append_left targets (x ∷ []) 0 (t * m.width + k) (let b = are.long in omega arith)) (are.each t k hk j)
    | inr j ↦ let n : t * m.width + k ≡ i * m.width + c = omega arith in
        let r = same_row t i k c m.width hk l n in
        rw (get_or_push targets x 0 (t * m.width + k) (are.long ∙ sym n)) (rw (r.0, r.1) e)
  ];
}
