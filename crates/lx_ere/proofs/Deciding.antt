-- Decidable facts: put together, about a number below a bound, and about an element of a list.
use Rattle.std.proofs.Common.{◌≡◌, ℕ, zero, suc, ◌<◌, ◌≤◌, ◌⊎◌, inl, inr, Bool, true, false, List, [], ◌∷◌, Contains, refl, sym, subst, arith}
use native.Mathlib.Decide.{ℕ_discrete}

-- ---- facts put together

-- equivalent facts
pub along : {P Q : Type 0} → (P → Q) → (Q → P) → Dec P → Dec Q
along f g (yes p) = yes (f p)
along f g (no n) = no (λ q. n (g q))

pub both : {P Q : Type 0} → Dec P → Dec Q → Dec (P × Q)
both (yes p) (yes q) = yes (p, q)
both (yes p) (no n) = no (λ h. n h.1)
both (no n) d = no (λ h. n h.0)

pub either : {P Q : Type 0} → Dec P → Dec Q → Dec (P ⊎ Q)
either (yes p) d = yes (inl p)
either (no n) (yes q) = yes (inr q)
either (no n) (no m) = no (λ h. elim h [ inl p ↦ n p | inr q ↦ m q ])

pub decide_not : {P : Type 0} → Dec P → Dec (P → ⊥)
decide_not (yes p) = no (λ n. n p)
decide_not (no n) = yes n

pub decide_true : (b : Bool) → Dec (b ≡ true)
decide_true true = yes refl
decide_true false = no (λ e. absurd (cc))

pub decide_false : (b : Bool) → Dec (b ≡ false)
decide_false true = no (λ e. absurd (cc))
decide_false false = yes refl

-- an element, or the fact that there is none
pub some_or_none : {A : Type 0} (P : A → Type 0) → Dec ((a : A) × P a) → ((a : A) × P a) ⊎ ((a : A) → P a → ⊥)
some_or_none P (yes h) = inl h
some_or_none P (no n) = inr (λ a p. n (a, p))

-- ---- numbers

pub below_or_not : (m n : ℕ) → (m ≤ n) ⊎ (n < m)
below_or_not zero n = inl (omega arith)
below_or_not (suc m) zero = inr (omega arith)
below_or_not (suc m) (suc n) = elim (below_or_not m n) [ inl l ↦ inl (omega (arith, l)) | inr l ↦ inr (omega (arith, l)) ]

pub under : (k n : ℕ) → k < suc n → (k ≡ n → ⊥) → k < n
under k n l other = elim (below_or_not n k) as (λ _. k < n) [ inl m ↦ absurd (other (omega (arith, l, m))) | inr m ↦ m ]

-- decides if a fact about numbers holds for one below a bound
pub decide_below : (P : ℕ → Type 0) → ((k : ℕ) → Dec (P k)) → (n : ℕ) → Dec ((k : ℕ) × (k < n) × P k)
decide_below P d zero = no (λ h. let l = h.1 in absurd (omega arith))
decide_below P d (suc n) = along out (λ h. into h.0 h.1 h.2) (either (d n) (decide_below P d n)) where
  out : P n ⊎ ((k : ℕ) × (k < n) × P k) → (k : ℕ) × (k < suc n) × P k
  out (inl p) = (n, (omega arith), p)
  out (inr h) = (h.0, (let l = h.1 in omega arith), h.2)

  into : (k : ℕ) → k < suc n → P k → P n ⊎ ((k : ℕ) × (k < n) × P k)
  into k l p = elim (ℕ_discrete k n) as (λ _. P n ⊎ ((k : ℕ) × (k < n) × P k)) [ yes e ↦ inl (subst P e p) | no other ↦ inr (k, under k n l other, p) ]

-- ---- elements of lists

contains_head : {A : Type 0} (x : A) (xs : List A) → Contains (x ∷ xs) x
contains_head x xs = (0, (omega arith), refl)

contains_tail : {A : Type 0} (x y : A) (xs : List A) → Contains xs y → Contains (x ∷ xs) y
contains_tail x y xs h = (suc h.0, (let l = h.1 in omega arith), h.2)

contains_cases : {A : Type 0} (x y : A) (xs : List A) → Contains (x ∷ xs) y → (x ≡ y) ⊎ Contains xs y
contains_cases x y xs (zero, l, e) = inl e
contains_cases x y xs (suc k, l, e) = inr (k, (omega arith), e)

-- decides if a fact holds for an element of a list
pub decide_in : {A : Type 0} (P : A → Type 0) → ((x : A) → Dec (P x)) → (xs : List A) → Dec ((x : A) × Contains xs x × P x)
decide_in P d [] = no (λ h. let l = h.1.1 in absurd (omega arith))
decide_in {A} P d (x ∷ xs) = along out (λ h. into h.0 h.1 h.2) (either (d x) (decide_in P d xs)) where
  out : P x ⊎ ((y : A) × Contains xs y × P y) → (y : A) × Contains (x ∷ xs) y × P y
  out (inl p) = (x, contains_head x xs, p)
  out (inr h) = (h.0, contains_tail x h.0 xs h.1, h.2)

  into : (y : A) → Contains (x ∷ xs) y → P y → P x ⊎ ((z : A) × Contains xs z × P z)
  into y c p = elim (contains_cases x y xs c) as (λ _. P x ⊎ ((z : A) × Contains xs z × P z)) [ inl e ↦ inl (subst P (sym e) p) | inr more ↦ inr (y, more, p) ]
