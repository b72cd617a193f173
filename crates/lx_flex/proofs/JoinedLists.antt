-- Conditions that were joined once may be joined again.
use Rattle.std.proofs.Common.{ℕ, zero, suc, ◌≡◌, ◌≢◌, ◌+◌, ◌<◌, ◌≤◌, ◌||◌, Bool, true, false, cond, nat_eq, List, ◌∷◌, ◌++◌, Option, inl, inr, refl, sym, subst, ◌∙◌, ap, ap₂, arith}
use Rattle.std.specs.Prelude.{filter}
use Rattle.std.specs.List.{list_any, range_with_len}
use Rattle.std.proofs.lemmas.Bool.{eq-eqb, cases_eq}
use Rattle.std.proofs.lemmas.Bool.Decides.{nat_tests}
use Rattle.std.proofs.lemmas.List.Folds.{list_any-append}
use Rattle.lx_flex.specs.Activity.{joined}
use Rattle.lx_flex.specs.RulesSections.{Section, end, rule, scope, if_any, active}

-- the number is one of the list
abbrev pub has : ℕ → List ℕ → Bool
has n xs = list_any (λ m. nat_eq m n) xs

ne-false : (m n : ℕ) → m ≢ n → nat_eq m n ≡ false
ne-false m n h = grind (arith, nat_tests)

has_other : (m n : ℕ) (xs : List ℕ) → m ≢ n → has n (m ∷ xs) ≡ has n xs
has_other m n xs h = ap (λ b. b || has n xs) (ne-false m n h)

has_same : (n : ℕ) (xs : List ℕ) → has n (n ∷ xs) ≡ true
has_same n xs = ap (λ b. b || has n xs) (eq-eqb n n refl)

has_below : (p : ℕ → Bool) (n s len : ℕ) → n < s → has n (filter p (range_with_len s len)) ≡ false
has_below p n s zero h = refl
has_below p n s (suc len) h =
    let more : has n (filter p (range_with_len (s + 1) len)) ≡ false = has_below p n (s + 1) len (omega arith) in
    let other : s ≢ n = λ e. omega arith in
    elim (p s) as (λ v. has n (cond v (s ∷ filter p (range_with_len (s + 1) len)) (filter p (range_with_len (s + 1) len))) ≡ false)
    [ true ↦ has_other s n (filter p (range_with_len (s + 1) len)) other ∙ more | false ↦ more ]

has_first : (p : ℕ → Bool) (s len : ℕ) → has s (filter p (range_with_len s (suc len))) ≡ p s
has_first p s len =
    let none : has s (filter p (range_with_len (s + 1) len)) ≡ false = has_below p s (s + 1) len (omega arith) in
    elim (p s) as (λ v. has s (cond v (s ∷ filter p (range_with_len (s + 1) len)) (filter p (range_with_len (s + 1) len))) ≡ v)
    [ true ↦ has_same s (filter p (range_with_len (s + 1) len)) | false ↦ none ]

has_later : (p : ℕ → Bool) (n s len : ℕ) → s ≢ n → has n (filter p (range_with_len (s + 1) len)) ≡ p n → has n (filter p (range_with_len s (suc len))) ≡ p n
has_later p n s len other more =
    elim (p s) as (λ v. has n (cond v (s ∷ filter p (range_with_len (s + 1) len)) (filter p (range_with_len (s + 1) len))) ≡ p n)
    [ true ↦ has_other s n (filter p (range_with_len (s + 1) len)) other ∙ more | false ↦ more ]

has_filtered : (p : ℕ → Bool) (n s len : ℕ) → s ≤ n → n < s + len → has n (filter p (range_with_len s len)) ≡ p n
has_filtered p n s zero low high = absurd (omega arith)
has_filtered p n s (suc len) low high =
    elim (cases_eq s n) [
      | inl same ↦ subst (λ (k : ℕ). has k (filter p (range_with_len s (suc len))) ≡ p k) same (has_first p s len)
      | inr other ↦ has_later p n s len other (let low : s + 1 ≤ n = omega arith in let high : n < (s + 1) + len = omega arith in has_filtered p n (s + 1) len low high)
    ]

filter_same : (p q : ℕ → Bool) (s len : ℕ) → ((n : ℕ) → s ≤ n → n < s + len → p n ≡ q n) → filter p (range_with_len s len) ≡ filter q (range_with_len s len)
filter_same p q s zero h = refl
filter_same p q s (suc len) h =
    ap₂ (λ (b : Bool) (xs : List ℕ). cond b (s ∷ xs) xs) (h s (omega arith) (omega arith)) (filter_same p q (s + 1) len (λ n low high. h n (omega arith) (omega arith)))

-- the lists have the same numbers below this one
pub record SameBelow (count : ℕ) (xs ys : List ℕ) : Type 0 where
  pub same : (n : ℕ) → n < count → has n xs ≡ has n ys

joined_same : (count : ℕ) (xs ys own : List ℕ) → SameBelow count xs ys → joined count xs own ≡ joined count ys own
joined_same count xs ys own h =
    filter_same (λ n. has n xs || has n own) (λ n. has n ys || has n own) 0 count (λ n low high. ap (λ (b : Bool). b || has n own) (h.same n (omega arith)))

append_same : (count : ℕ) (xs ys own : List ℕ) → SameBelow count xs ys → SameBelow count (xs ++ own) (ys ++ own)
append_same count xs ys own h = record {
  same = λ n low. list_any-append (λ m. nat_eq m n) xs own ∙ (ap (λ (b : Bool). b || has n own) (h.same n low) ∙ sym (list_any-append (λ m. nat_eq m n) ys own));
}

active_same : (count : ℕ) (xs ys : List ℕ) (s : Section) → SameBelow count xs ys → active count xs s ≡ active count ys s
active_same count xs ys end h = refl
active_same count xs ys (rule own more) h = ap₂ (λ (c : List ℕ) (cs : List (Option (List ℕ))). if_any c ∷ cs) (joined_same count xs ys own h) (active_same count xs ys more h)
active_same count xs ys (scope own inside more) h =
    ap₂ (λ (a b : List (Option (List ℕ))). a ++ b) (active_same count (xs ++ own) (ys ++ own) inside (append_same count xs ys own h)) (active_same count xs ys more h)

joined_below : (count : ℕ) (a b : List ℕ) → SameBelow count (joined count a b) (a ++ b)
joined_below count a b = record {
  same = λ n low. has_filtered (λ k. has k a || has k b) n 0 count (omega arith) (omega arith) ∙ sym (list_any-append (λ m. nat_eq m n) a b);
}

-- Inside a scope it is the same whether the lists around were joined, or stand one after the other.
pub active_joined : (count : ℕ) (a b : List ℕ) (s : Section) → active count (joined count a b) s ≡ active count (a ++ b) s
active_joined count a b s = active_same count (joined count a b) (a ++ b) s (joined_below count a b)
