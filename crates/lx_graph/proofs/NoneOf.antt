-- No number below one passes a test: from the first ones to one more.
use Rattle.std.proofs.Common.{ℕ, ◌≡◌, ◌<◌, ◌≤◌, ◌+◌, arith, Bool, true, false, ◌||◌, take, get_or, sym, ap, subst, ◌∙◌}
use Rattle.std.specs.List.{list_any, range_with_len}
use Rattle.std.proofs.lemmas.List.{take_all}
use Rattle.std.proofs.lemmas.List.Folds.{list_any_at, list_any_more}
use Rattle.std.proofs.lemmas.List.FromFn.{length-range_with_len, get_or-range_with_len}

module _ (p : ℕ → Bool) (n i : ℕ) where
  pub none_more : i < n → list_any p (take i (range_with_len 0 n)) ≡ false → p i ≡ false → list_any p (take (i + 1) (range_with_len 0 n)) ≡ false
  none_more l h k =
      let e : i ≡ get_or (range_with_len 0 n) i 0 = omega (arith, get_or-range_with_len 0 n i 0 l) in
      let k2 : p (get_or (range_with_len 0 n) i 0) ≡ false = subst (λ j. p j ≡ false) e k in
      list_any_more p (range_with_len 0 n) i 0 (omega (arith, length-range_with_len 0 n)) ∙ (ap (λ b. b || p (get_or (range_with_len 0 n) i 0)) h ∙ k2)

  pub none_at_all : n ≤ i → list_any p (take i (range_with_len 0 n)) ≡ false → list_any p (range_with_len 0 n) ≡ false
  none_at_all l h = ap (λ ys. list_any p ys) (sym (take_all i (range_with_len 0 n) (omega (arith, length-range_with_len 0 n)))) ∙ h

  pub one_at : i < n → p i ≡ true → list_any p (range_with_len 0 n) ≡ true
  one_at l k =
      let e : i ≡ get_or (range_with_len 0 n) i 0 = omega (arith, get_or-range_with_len 0 n i 0 l) in
      list_any_at p (range_with_len 0 n) i 0 (omega (arith, length-range_with_len 0 n)) (subst (λ j. p j ≡ true) e k)
