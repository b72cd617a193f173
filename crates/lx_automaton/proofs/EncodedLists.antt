-- The meaning of a machine's encoded lists.
use Rattle.std.proofs.Common.{Option, ◌≡◌, ◌≢◌, ℕ, zero, suc, ◌+◌, ◌-◌, ◌*◌, ◌<◌, true, false, Some, None, List, [], ◌∷◌, length, map, get_or, slice_index, slice_index_or, refl, sym, ◌∙◌, ap, subst, arith, eqb, inl, inr}
use Rattle.std.specs.Prelude.{IfSome}
use Rattle.std.proofs.lemmas.Bool.{cases_eq}
use Rattle.std.proofs.lemmas.Bool.Decides.{eqb_tells}
use Rattle.std.proofs.lemmas.List.{get_or_read}
use Rattle.lx_automaton.specs.Automata.{Machine, IsMachine, state_count}
use Rattle.std.proofs.lemmas.List.{length-map}
use Rattle.lx_automaton.proofs.RowMajor.{in_row}
use Rattle.lx_automaton.specs.EncodedOptions.{decoded_option, machine_of}

pub decoded_at : (xs : List ℕ) (i : ℕ) → slice_index_or (map decoded_option xs) i None ≡ decoded_option (slice_index xs i)
decoded_at [] i = refl
decoded_at (x ∷ xs) zero = refl
decoded_at (x ∷ xs) (suc i) = decoded_at xs i

pub different : (a b : ℕ) → a ≢ b → eqb a b ≡ false
different a b ne = elim (eqb_tells a b) [ inl t ↦ absurd (ne t.1) | inr t ↦ t.0 ]

pub decoded_option-some : (n : ℕ) → n ≢ 0 → decoded_option n ≡ Some (n - 1)
decoded_option-some n h = rw (different n 0 h) refl

pub start_below : (m : Machine) → IsMachine m → (c : ℕ) (x : ℕ × ℕ) → c < length m.starts → x ≡ get_or m.starts c x →
    (x.0 < state_count m) × (x.1 < state_count m)
start_below m is c x h e =
    let r : x ≡ get_or m.starts c (0, 0) = get_or_read m.starts c x h e (0, 0) in (
      subst (λ (y : ℕ × ℕ). y.0 < state_count m) (sym r) (is.starts c false h),
      subst (λ (y : ℕ × ℕ). y.1 < state_count m) (sym r) (is.starts c true h),
    )

-- if a machine's states are known to have the encoded numbers
pub target_below : (starts : List (ℕ × ℕ)) (classes : List ℕ) (width : ℕ) (accepted targets : List ℕ) → IsMachine (machine_of starts classes width accepted targets) →
    (s class encoded : ℕ) → s < state_count (machine_of starts classes width accepted targets) → class < width →
    encoded ≡ get_or targets (s * width + class) encoded → encoded ≢ 0 → encoded - 1 < state_count (machine_of starts classes width accepted targets)
target_below starts classes width accepted targets is s class encoded hs hc e ne =
    let i = s * width + class in
    let long : length targets ≡ state_count (machine_of starts classes width accepted targets) * width = sym (length-map targets decoded_option) ∙ is.rows in
    let inside : i < length targets = (let r = in_row s class _ width hs hc in omega arith) in
    let at : encoded ≡ get_or targets i 0 = get_or_read targets i encoded inside e 0 in
    is.closed s class (encoded - 1) hs hc (decoded_at targets i ∙ ap decoded_option (sym at) ∙ decoded_option-some encoded ne)

pub class_below : (m : Machine) → IsMachine m → (b class : ℕ) → b < 256 → class ≡ get_or m.classes b class → class < m.width
class_below m is b class h e =
    let at : class ≡ get_or m.classes b 0 = get_or_read m.classes b class (let l = is.bytes in omega arith) e 0 in
    subst (λ x. x < m.width) (sym at) (is.below b h)

pub decoded_option-same : (a b : ℕ) → decoded_option a ≡ decoded_option b → a ≡ b
decoded_option-same a b e = elim (cases_eq a 0) [
  | inl f ↦ elim (cases_eq b 0) [
    | inl g ↦ f ∙ sym g
    | inr g ↦ let h : None ≡ Some (b - 1) = sym (ap decoded_option f) ∙ e ∙ decoded_option-some b g in cc
  ]
  | inr f ↦ elim (cases_eq b 0) [
    | inl g ↦ let h : Some (a - 1) ≡ None = sym (decoded_option-some a f) ∙ e ∙ ap decoded_option g in cc
    | inr g ↦ let h : Some (a - 1) ≡ Some (b - 1) = sym (decoded_option-some a f) ∙ e ∙ decoded_option-some b g in
        let k : a - 1 ≡ b - 1 = cc in omega arith
  ]
]

pub encoded_option_above : (encoded_option n : ℕ) → decoded_option encoded_option ≡ Some n → encoded_option ≡ n + 1
encoded_option_above encoded_option n e = elim (cases_eq encoded_option 0) [
  | inl f ↦ let g : None ≡ Some n = sym (ap decoded_option f) ∙ e in cc
  | inr f ↦ let g : Some (encoded_option - 1) ≡ Some n = sym (decoded_option-some encoded_option f) ∙ e in let k : encoded_option - 1 ≡ n = cc in omega arith
]

pub if_some : (o : Option ℕ) (P : ℕ → Type 0) → ((n : ℕ) → o ≡ Some n → P n) → IfSome o P
if_some None P h = tt
if_some (Some n) P h = h n refl
