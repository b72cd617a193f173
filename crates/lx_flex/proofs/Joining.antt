-- The conditions of two lists, one number after the other.
use Rattle.std.proofs.Common.{ℕ, zero, suc, ◌≡◌, ◌+◌, ◌||◌, Bool, true, false, nat_eq, List, [], ◌∷◌, ◌++◌, refl, ◌∙◌, ap, arith, append-nil}
use Rattle.std.specs.Prelude.{filter}
use Rattle.std.specs.List.{list_any, range_with_len}
use Rattle.std.proofs.lemmas.List.Elements.{filter-append}
use Rattle.lx_flex.specs.Activity.{joined}

range-more : (a n : ℕ) → range_with_len a (suc n) ≡ range_with_len a n ++ (a + n) ∷ []
range-more a zero = let same : a ≡ a + 0 = omega arith in ap (λ (k : ℕ). k ∷ []) same
range-more a (suc n) = let same : (a + 1) + n ≡ a + suc n = omega arith in ap (λ ks. a ∷ ks) (range-more (a + 1) n ∙ ap (λ (k : ℕ). range_with_len (a + 1) n ++ k ∷ []) same)

filter-one : (p : ℕ → Bool) (n : ℕ) → p n ≡ true → filter p (n ∷ []) ≡ n ∷ []
filter-one p n h = rw h refl

filter-none : (p : ℕ → Bool) (n : ℕ) → p n ≡ false → filter p (n ∷ []) ≡ []
filter-none p n h = rw h refl

more : (p : ℕ → Bool) (n : ℕ) → filter p (range_with_len 0 (n + 1)) ≡ filter p (range_with_len 0 n) ++ filter p (n ∷ [])
more p n =
    let next : n + 1 ≡ suc n = omega arith in
    let same : 0 + n ≡ n = omega arith in
    ap (λ (k : ℕ). filter p (range_with_len 0 k)) next
    ∙ (ap (λ ks. filter p ks) (range-more 0 n) ∙ (filter-append p (range_with_len 0 n) ((0 + n) ∷ []) ∙ ap (λ (k : ℕ). filter p (range_with_len 0 n) ++ filter p (k ∷ [])) same))

pub joined_with : (n : ℕ) (one other : List ℕ) → (list_any (λ m. nat_eq m n) one || list_any (λ m. nat_eq m n) other) ≡ true → joined (n + 1) one other ≡ joined n one other ++ n ∷ []
joined_with n one other h =
    let p : ℕ → Bool = λ k. list_any (λ m. nat_eq m k) one || list_any (λ m. nat_eq m k) other in
    more p n ∙ ap (λ ks. filter p (range_with_len 0 n) ++ ks) (filter-one p n h)

pub joined_without : (n : ℕ) (one other : List ℕ) → (list_any (λ m. nat_eq m n) one || list_any (λ m. nat_eq m n) other) ≡ false → joined (n + 1) one other ≡ joined n one other
joined_without n one other h =
    let p : ℕ → Bool = λ k. list_any (λ m. nat_eq m k) one || list_any (λ m. nat_eq m k) other in
    more p n ∙ (ap (λ ks. filter p (range_with_len 0 n) ++ ks) (filter-none p n h) ∙ append-nil (filter p (range_with_len 0 n)))

-- one number more of those from 0 on
pub range_next : (n : ℕ) → range_with_len 0 (n + 1) ≡ range_with_len 0 n ++ n ∷ []
range_next n =
    let next : n + 1 ≡ suc n = omega arith in
    let same : 0 + n ≡ n = omega arith in
    ap (λ (k : ℕ). range_with_len 0 k) next ∙ (range-more 0 n ∙ ap (λ (k : ℕ). range_with_len 0 n ++ k ∷ []) same)
