-- Positions between two members of a set.
use Rattle.std.proofs.Common.{◌≡◌, ℕ, zero, suc, ◌≤◌, ◌<◌, ◌⊎◌, inl, inr, Bool, true, false, List, [], ◌∷◌, length, get_or, refl, sym, ◌∙◌, ap, subst, arith}
use Rattle.std.proofs.lemmas.Bool.{cases_eq, cases_lt}
use Rattle.std.specs.Prelude.{Contains, slice_index, slice_set}
use Rattle.lx_automaton.proofs.Members.{contains_nil, contains_cases}
use Rattle.lx_auto.specs.Marking.{flag}
use Rattle.lx_auto.specs.SetSteps.{IsRising}
use Rattle.lx_auto.specs.BarePositions.{IsBareIn}
use Rattle.lx_auto.specs.declared.sets.bare.Bare.{Bare}
use Rattle.lx_auto.proofs.FlagLemmas.{flag_set_same, flag_set_other, length_set}

default_any : (S : List ℕ) (k d : ℕ) → k < length S → slice_index S k ≡ get_or S k d
default_any [] k d h = absurd (omega arith)
default_any (x ∷ S) zero d h = refl
default_any (x ∷ S) (suc k) d h = default_any S k d (omega arith)

-- none of these positions is a member
pub absent_in : (S : List ℕ) (bare : Bare) → IsRising S → IsBareIn S bare → (q : ℕ) → bare.from ≤ q → q < bare.until → Contains S q → ⊥
absent_in S bare rising is q low high h =
    let k = h.0 in
    let inside : k < length S = h.1 in
    let member : slice_index S k ≡ q = default_any S k q inside ∙ h.2 in
    elim (cases_lt k bare.passed) [
      | inl early ↦ let before = is.before k early in absurd (omega arith)
      | inr late ↦
          let behind = is.behind (omega arith) in
          elim (cases_lt bare.passed k) [
            | inl more ↦ let greater = rising bare.passed k more inside in absurd (omega arith)
            | inr same ↦
                let here : k ≡ bare.passed = omega arith in
                let equal : slice_index S k ≡ slice_index S bare.passed = ap (λ n. slice_index S n) here in
                absurd (omega arith)
          ]
    ]

bool_cases : (b : Bool) → (b ≡ true) ⊎ (b ≡ false)
bool_cases true = inl refl
bool_cases false = inr refl

-- if only members have marks, none of these positions is marked
pub unmarked_in : (S : List ℕ) (marks : List Bool) (from until : ℕ) → ((q : ℕ) → flag marks q ≡ true → Contains S q) →
    ((q : ℕ) → from ≤ q → q < until → Contains S q → ⊥) → (q : ℕ) → from ≤ q → q < until → flag marks q ≡ false
unmarked_in S marks from until members absent q low high = elim (bool_cases (flag marks q)) [
  | inl t ↦ absurd (absent q low high (members q t))
  | inr f ↦ f
]

flag_past : (flags : List Bool) (q : ℕ) → length flags ≤ q → flag flags q ≡ false
flag_past [] q h = refl
flag_past (f ∷ flags) zero h = absurd (omega arith)
flag_past (f ∷ flags) (suc q) h = flag_past flags q (omega arith)

-- one member's flag less
pub unmarked_more : (flags : List Bool) (x : ℕ) (rest : List ℕ) → ((q : ℕ) → flag flags q ≡ true → Contains (x ∷ rest) q) →
    (q : ℕ) → flag (slice_set flags x false) q ≡ true → Contains rest q
unmarked_more flags x rest left q t = elim (cases_eq q x) [
  | inl e ↦ elim (cases_lt x (length flags)) [
    | inl l ↦
        let no : false ≡ true = sym (ap (λ i. flag (slice_set flags x false) i) e ∙ flag_set_same flags x false l) ∙ t in absurd (cc)
    | inr l ↦
        let long = length_set flags x false in
        let no : false ≡ true = sym (flag_past (slice_set flags x false) q (omega arith)) ∙ t in absurd (cc)
  ]
  | inr ne ↦ elim (contains_cases x q rest (left q (sym (flag_set_other flags x q false ne) ∙ t))) [
    | inl e ↦ absurd (ne (sym e))
    | inr c ↦ c
  ]
]

pub unmarked_all : (flags : List Bool) (rest : List ℕ) → rest ≡ [] → ((q : ℕ) → flag flags q ≡ true → Contains rest q) → (q : ℕ) → flag flags q ≡ false
unmarked_all flags rest none left q = elim (bool_cases (flag flags q)) [
  | inl t ↦ absurd (contains_nil q (subst (λ members. Contains members q) none (left q t)))
  | inr f ↦ f
]
