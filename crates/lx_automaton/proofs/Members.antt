-- Members of lists of numbers.
use Rattle.std.proofs.Common.{◌≡◌, ℕ, zero, suc, ◌<◌, ◌⊎◌, inl, inr, true, List, [], ◌∷◌, length, get_or, refl, arith, eqb}
use Rattle.std.specs.Prelude.{Contains}
use Rattle.std.specs.List.{list_any}
use Rattle.std.proofs.lemmas.Bool.{eqb-true}
use Rattle.std.proofs.lemmas.List.{get_or_default}
use Rattle.std.proofs.lemmas.List.Folds.{Any-from_list_any}

pub contains_head : (x : ℕ) (xs : List ℕ) → Contains (x ∷ xs) x
contains_head x xs = (0, (omega arith), refl)

pub contains_tail : (x q : ℕ) (xs : List ℕ) → Contains xs q → Contains (x ∷ xs) q
contains_tail x q xs h = (suc h.0, (let l = h.1 in omega arith), h.2)

pub contains_cases : (x q : ℕ) (xs : List ℕ) → Contains (x ∷ xs) q → (x ≡ q) ⊎ Contains xs q
contains_cases x q xs h = go h.0 h.1 h.2
  where
    go : (k : ℕ) → k < length (x ∷ xs) → get_or (x ∷ xs) k q ≡ q → (x ≡ q) ⊎ Contains xs q
    go zero l e = inl e
    go (suc k) l e = inr (k, (omega arith), e)

pub contains_nil : (q : ℕ) → Contains [] q → ⊥
contains_nil q h = let l = h.1 in absurd (omega arith)

-- every element is a member
pub contains_at : (xs : List ℕ) (i : ℕ) → i < length xs → Contains xs (get_or xs i 0)
contains_at [] i h = absurd (omega arith)
contains_at (x ∷ xs) zero h = contains_head x xs
contains_at (x ∷ xs) (suc i) h = contains_tail x (get_or xs i 0) xs (contains_at xs i (omega arith))

-- the result of a test on a list of numbers below n
pub below_from_any : (xs : List ℕ) (n q : ℕ) → list_any (eqb q) xs ≡ true → ((i : ℕ) → i < length xs → get_or xs i 0 < n) → q < n
below_from_any xs n q h all =
    let a = Any-from_list_any (λ x. eqb q x) xs h in
    let e : q ≡ a.1 = eqb-true q a.1 a.4 in
    let d = get_or_default xs a.0 a.1 0 a.2 in
    let b = all a.0 a.2 in
    let f = a.3 in
    omega arith
