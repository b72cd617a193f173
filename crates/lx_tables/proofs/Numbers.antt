-- The numbers of the classes of bytes follow from the steps.
use Rattle.std.specs.Prelude.{ℕ, ◌≡◌, ◌+◌, ◌<◌, ◌≤◌, ◌==◌, ◌&&◌, ◌⊎◌, Bool, true, false, nat_lt, if◌then◌else◌, List, [], ◌∷◌, Option}
use Rattle.std.proofs.Common.{sym, ◌∙◌, ap, ap₂, subst, arith, refl, inl, inr}
use Rattle.std.proofs.lemmas.Bool.{ltb-true, eqb-true, and_parts, cases_eq}
use Rattle.lx_automaton.specs.Automata.{are_numbered}

-- the steps of classes: for each class and each state the state that follows
abbrev pub Steps : Type 0
Steps = ℕ → ℕ → Option ℕ

module _ (n : ℕ) where
  -- no two classes step alike in each of the states
  abbrev pub AreDifferent : Steps → ℕ → Type 0
  AreDifferent R w = (c d : ℕ) → c < w → d < w → ((s : ℕ) → s < n → R c s ≡ R d s) → c ≡ d

  -- byte for byte these classes step alike
  abbrev pub StepAlike : Steps → Steps → List ℕ → List ℕ → Type 0
  StepAlike R Q [] [] = Unit {0}
  StepAlike R Q [] (d ∷ ds) = ⊥
  StepAlike R Q (c ∷ cs) [] = ⊥
  StepAlike R Q (c ∷ cs) (d ∷ ds) = ((s : ℕ) → s < n → R c s ≡ Q d s) × StepAlike R Q cs ds

  -- below this class both step alike
  abbrev pub AlikeBelow : Steps → Steps → ℕ → Type 0
  AlikeBelow R Q k = (c : ℕ) → c < k → (s : ℕ) → s < n → R c s ≡ Q c s

  -- the next class: a new one, or one that was seen
  next_class : (k w c : ℕ) (cs : List ℕ) → are_numbered k w (c ∷ cs) ≡ true → ((c ≡ k) × (are_numbered (k + 1) w cs ≡ true)) ⊎ ((c < k) × (are_numbered k w cs ≡ true))
  next_class k w c cs h = at (c == k) refl h
    where
      at : (b : Bool) → c == k ≡ b → (if b then are_numbered (k + 1) w cs else nat_lt c k && are_numbered k w cs) ≡ true → ((c ≡ k) × (are_numbered (k + 1) w cs ≡ true)) ⊎ ((c < k) × (are_numbered k w cs ≡ true))
      at true e g = inl (eqb-true c k e, g)
      at false e g = let p = and_parts (nat_lt c k) (are_numbered k w cs) g in inr (ltb-true c k p.0, p.1)

  pub within : (k w : ℕ) (cs : List ℕ) → are_numbered k w cs ≡ true → k ≤ w
  within k w [] h = let same = eqb-true k w h in omega arith
  within k w (c ∷ cs) h = elim (next_class k w c cs h) [
    | inl p ↦ (let up = within (k + 1) w cs p.1 in omega arith)
    | inr p ↦ within k w cs p.1
  ]

  extend : (R Q : Steps) (k c d : ℕ) → c ≡ k → d ≡ k → ((s : ℕ) → s < n → R c s ≡ Q d s) → AlikeBelow R Q k → AlikeBelow R Q (k + 1)
  extend R Q k c d e f now below x l s h = elim (cases_eq x k) [
    | inl same ↦ (ap (λ (j : ℕ). R j s) (same ∙ sym e) ∙ (now s h ∙ ap (λ (j : ℕ). Q j s) (f ∙ sym same)))
    | inr differs ↦ below x (omega arith) s h
  ]

  pub one_numbering : (R Q : Steps) (w v : ℕ) → AreDifferent R w → AreDifferent Q v → (k : ℕ) (cs ds : List ℕ) →
      are_numbered k w cs ≡ true → are_numbered k v ds ≡ true → StepAlike R Q cs ds → AlikeBelow R Q k → (cs ≡ ds) × (w ≡ v) × AlikeBelow R Q w
  one_numbering R Q w v differ differ' k [] [] m o alike below =
      let p = eqb-true k w m in let q = eqb-true k v o in
      (refl, omega arith, subst (λ (x : ℕ). AlikeBelow R Q x) p below)
  one_numbering R Q w v differ differ' k [] (d ∷ ds) m o alike below = absurd alike
  one_numbering R Q w v differ differ' k (c ∷ cs) [] m o alike below = absurd alike
  one_numbering R Q w v differ differ' k (c ∷ cs) (d ∷ ds) m o alike below =
      let inner = within k w (c ∷ cs) m in
      let outer = within k v (d ∷ ds) o in
      elim (next_class k w c cs m) [
        | inl p ↦ elim (next_class k v d ds o) [
          | inl q ↦ (let r = one_numbering R Q w v differ differ' (k + 1) cs ds p.1 q.1 alike.1 (extend R Q k c d p.0 q.0 alike.0 below) in
              (ap₂ (λ (x : ℕ) (xs : List ℕ). x ∷ xs) (p.0 ∙ sym q.0) r.0, r.1, r.2))
          | inr q ↦ (let up = within (k + 1) w cs p.1 in
              let same : c ≡ d = differ c d (omega arith) (omega arith) (λ s h. alike.0 s h ∙ sym (below d q.0 s h)) in absurd (omega arith))
        ]
        | inr p ↦ elim (next_class k v d ds o) [
          | inl q ↦ (let up = within (k + 1) v ds q.1 in
              let same : c ≡ d = differ' c d (omega arith) (omega arith) (λ s h. sym (below c p.0 s h) ∙ alike.0 s h) in absurd (omega arith))
          | inr q ↦ (let r = one_numbering R Q w v differ differ' k cs ds p.1 q.1 alike.1 below in
              let same : c ≡ d = differ' c d (omega arith) (omega arith) (λ s h. sym (below c p.0 s h) ∙ alike.0 s h) in
              (ap₂ (λ (x : ℕ) (xs : List ℕ). x ∷ xs) same r.0, r.1, r.2))
        ]
      ]
