-- Sums over the views of all seats, after one of them has changed.
use Rattle.std.proofs.Common.{◌≡◌, ◌≢◌, ℕ, zero, suc, ◌+◌, ◌≤◌, List, [], ◌∷◌, set, sym, refl, ap, arith}
use Rattle.std.specs.List.{sum_by}
use Rattle.std.proofs.lemmas.List.Sums.{sum_by-cons}
use mathlib.Core.Option.{some, some-injective, some-ne-none}
use lib.ListN.{get_elem?}

module _ {V : Type 0} (f : V → ℕ) where
  -- a sum after one view has changed
  pub sum_set : (l : List V) (k : ℕ) (v w : V) → get_elem? l k ≡ some v → sum_by f (set l k w) + f v ≡ sum_by f l + f w
  sum_set [] k v w e = absurd (some-ne-none v (sym e))
  sum_set (x ∷ xs) zero v w e =
      let same : f x ≡ f v = ap f (some-injective x v e) in
      omega (arith, sum_by-cons f w xs, sum_by-cons f x xs)
  sum_set (x ∷ xs) (suc k) v w e =
      let rest = sum_set xs k v w e in
      omega (arith, sum_by-cons f x (set xs k w), sum_by-cons f x xs)

  -- the term of one view is at most the sum
  pub one_le_sum : (l : List V) (k : ℕ) (v : V) → get_elem? l k ≡ some v → f v ≤ sum_by f l
  one_le_sum [] k v e = absurd (some-ne-none v (sym e))
  one_le_sum (x ∷ xs) zero v e =
      let same : f x ≡ f v = ap f (some-injective x v e) in
      omega (arith, sum_by-cons f x xs)
  one_le_sum (x ∷ xs) (suc k) v e =
      let rest = one_le_sum xs k v e in
      omega (arith, sum_by-cons f x xs)

  -- two sums, one below the other at each view
  pub sum_le_sum : (g : V → ℕ) (l : List V) → ((k : ℕ) (v : V) → get_elem? l k ≡ some v → f v ≤ g v) → sum_by f l ≤ sum_by g l
  sum_le_sum g [] h = omega arith
  sum_le_sum g (x ∷ xs) h =
      let here = h 0 x refl in
      let rest = sum_le_sum g xs (λ k. h (suc k)) in
      omega (arith, sum_by-cons f x xs, sum_by-cons g x xs)

  -- the terms of two views are at most the sum
  pub two_le_sum : (l : List V) (k j : ℕ) (v u : V) → get_elem? l k ≡ some v → get_elem? l j ≡ some u → j ≢ k → f v + f u ≤ sum_by f l
  two_le_sum [] k j v u e e' other = absurd (some-ne-none v (sym e))
  two_le_sum (x ∷ xs) zero zero v u e e' other = absurd (other refl)
  two_le_sum (x ∷ xs) zero (suc j) v u e e' other =
      let same : f x ≡ f v = ap f (some-injective x v e) in
      let rest = one_le_sum xs j u e' in
      omega (arith, sum_by-cons f x xs)
  two_le_sum (x ∷ xs) (suc k) zero v u e e' other =
      let same : f x ≡ f u = ap f (some-injective x u e') in
      let rest = one_le_sum xs k v e in
      omega (arith, sum_by-cons f x xs)
  two_le_sum (x ∷ xs) (suc k) (suc j) v u e e' other =
      let rest = two_le_sum xs k j v u e e' (λ is. other (ap suc is)) in
      omega (arith, sum_by-cons f x xs)

  pub sum_none : (l : List V) → ((j : ℕ) (u : V) → get_elem? l j ≡ some u → f u ≡ 0) → sum_by f l ≡ 0
  sum_none [] h = refl
  sum_none (x ∷ xs) h =
      let here : f x ≡ 0 = h 0 x refl in
      let rest = sum_none xs (λ j. h (suc j)) in
      omega (arith, sum_by-cons f x xs)

  -- if f is 0 at all views but one, the sum is f of that one
  pub sum_alone : (l : List V) (k : ℕ) (v : V) → get_elem? l k ≡ some v → ((j : ℕ) (u : V) → get_elem? l j ≡ some u → j ≢ k → f u ≡ 0) → sum_by f l ≡ f v
  sum_alone [] k v e h = absurd (some-ne-none v (sym e))
  sum_alone (x ∷ xs) zero v e h =
      let same : f x ≡ f v = ap f (some-injective x v e) in
      let none = sum_none xs (λ j u at. h (suc j) u at (λ is. omega arith)) in
      omega (arith, sum_by-cons f x xs)
  sum_alone (x ∷ xs) (suc k) v e h =
      let here : f x ≡ 0 = h 0 x refl (λ is. omega arith) in
      let rest = sum_alone xs k v e (λ j u at other. h (suc j) u at (λ is. other (omega arith))) in
      omega (arith, sum_by-cons f x xs)
