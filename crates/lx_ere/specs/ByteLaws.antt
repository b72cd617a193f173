-- The contents of the set of the bytes that pass a test. All here are proofs, of which only the statements need be read.
use Rattle.std.proofs.Common.{◌≡◌, ◌≢◌, ℕ, zero, suc, ◌+◌, ◌<◌, ◌≤◌, inl, inr, Bool, true, false, ◌&&◌, ◌||◌, nat_eq, nat_lt, nat_le, cond, List, [], ◌∷◌, filter, refl, sym, ap, ◌∙◌, arith}
use Rattle.std.specs.List.{list_any}
use Rattle.std.proofs.lemmas.Bool.Decides.{nat_tests}
use Rattle.std.proofs.lemmas.Bool.{cases_eq}
use Rattle.std.specs.FinSet as byte_sets
use Rattle.std.specs.Ordering.{nat_cmp}
use Rattle.lx_ere.specs.Bytes.{numbers_from, all_bytes, bytes_where, is_between}

any_filter : (test : ℕ → Bool) (xs : List ℕ) (q : ℕ) → list_any (λ y. nat_eq y q) (filter test xs) ≡ (test q && list_any (λ y. nat_eq y q) xs)
any_filter test [] q = and_none (test q)
  where
    and_none : (b : Bool) → false ≡ (b && false)
    and_none true = refl
    and_none false = refl
any_filter test (x ∷ xs) q = go (test x) refl (nat_eq x q) refl (any_filter test xs q)
  where
    go : (b : Bool) → test x ≡ b → (d : Bool) → nat_eq x q ≡ d → list_any (λ y. nat_eq y q) (filter test xs) ≡ (test q && list_any (λ y. nat_eq y q) xs) →
        list_any (λ y. nat_eq y q) (cond b (x ∷ filter test xs) (filter test xs)) ≡ (test q && (d || list_any (λ y. nat_eq y q) xs))
    go true e true f h = let same : x ≡ q = grind (arith, nat_tests) in rw (f, ← same, e) refl
    go true e false f h = rw f h
    go false e true f h = let same : x ≡ q = grind (arith, nat_tests) in let no : test q ≡ false = rw (← same) e in rw no at h ∙ rw no refl
    go false e false f h = h

any_number : (n k q : ℕ) → list_any (λ y. nat_eq y q) (numbers_from n k) ≡ (nat_le n q && nat_lt q (n + k))
any_number n zero q = grind (arith, nat_tests)
any_number n (suc k) q = grind (arith, nat_tests, any_number (suc n) k q)

-- a byte is in the set if the test is true of it
pub contains_where : (test : ℕ → Bool) (q : ℕ) → q < 256 → byte_sets.contains (bytes_where test) q ≡ test q
unfolding all_bytes
contains_where test q h =
    let within : (nat_le 0 q && nat_lt q 256) ≡ true = grind (arith, nat_tests) in
    byte_sets.contains-from_list_nat (filter test all_bytes) q ∙ (any_filter test all_bytes q ∙ (rw (any_number 0 256 q) (rw within (and_true (test q)))))
  where
    and_true : (b : Bool) → (b && true) ≡ b
    and_true true = refl
    and_true false = refl

filter_same : (p q : ℕ → Bool) (n k : ℕ) → ((b : ℕ) → b < n + k → p b ≡ q b) → filter p (numbers_from n k) ≡ filter q (numbers_from n k)
filter_same p q n zero h = refl
filter_same p q n (suc k) h = rw (h n (omega arith), filter_same p q (suc n) k (λ b lt. h b (omega (arith, lt)))) refl

-- two tests that agree on bytes make one set
pub same_where : (p q : ℕ → Bool) → ((b : ℕ) → b < 256 → p b ≡ q b) → bytes_where p ≡ bytes_where q
unfolding all_bytes
same_where p q h = ap (λ xs. byte_sets.from_list xs) (filter_same p q 0 256 (λ b lt. h b (omega (arith, lt))))

-- tests that make one set agree on bytes
pub agree : (p t : ℕ → Bool) → bytes_where p ≡ bytes_where t → (q : ℕ) → q < 256 → p q ≡ t q
agree p t e q h = sym (contains_where p q h) ∙ (ap (λ s. byte_sets.contains s q) e ∙ contains_where t q h)

-- a set of bytes by its own members
pub own_bytes : (test : ℕ → Bool) → bytes_where test ≡ bytes_where (λ b. byte_sets.contains (bytes_where test) b)
own_bytes test = same_where test (λ b. byte_sets.contains (bytes_where test) b) (λ q lt. sym (contains_where test q lt))

-- A set is filled byte by byte with those of another one: before the first byte, after one that it has, after one that it hasn't, and after the last.
abbrev pub filled : (other own : ℕ → Bool) → ℕ → byte_sets.FinSet nat_cmp
filled other own n = bytes_where (λ b. (nat_lt b n && other b) || own b)

pub fill_start : (other own : ℕ → Bool) → bytes_where own ≡ filled other own 0
fill_start other own = same_where own _ (λ q lt. let none : nat_lt q 0 ≡ false = grind (arith, nat_tests) in rw none refl)

pub fill_with : (other own : ℕ → Bool) (n : ℕ) → other n ≡ true → bytes_where (λ b. is_between n n b || ((nat_lt b n && other b) || own b)) ≡ filled other own (n + 1)
fill_with other own n has = same_where _ _ (λ q lt. elim (cases_eq q n) [ inl same ↦ here q same | inr not ↦ there q not ])
  where
    here : (q : ℕ) → q ≡ n → (is_between n n q || ((nat_lt q n && other q) || own q)) ≡ ((nat_lt q (n + 1) && other q) || own q)
    here q same = let within : is_between n n n ≡ true = grind (arith, nat_tests) in let below : nat_lt n (n + 1) ≡ true = grind (arith, nat_tests) in rw (same, within, below, has) refl

    there : (q : ℕ) → q ≢ n → (is_between n n q || ((nat_lt q n && other q) || own q)) ≡ ((nat_lt q (n + 1) && other q) || own q)
    there q not = let outside : is_between n n q ≡ false = grind (arith, nat_tests) in let same : nat_lt q (n + 1) ≡ nat_lt q n = grind (arith, nat_tests) in rw (outside, same) refl

pub fill_without : (other own : ℕ → Bool) (n : ℕ) → other n ≡ false → filled other own n ≡ filled other own (n + 1)
fill_without other own n hasnt = same_where _ _ (λ q lt. elim (cases_eq q n) [ inl same ↦ here q same | inr not ↦ there q not ])
  where
    here : (q : ℕ) → q ≡ n → ((nat_lt q n && other q) || own q) ≡ ((nat_lt q (n + 1) && other q) || own q)
    here q same = let at : nat_lt n n ≡ false = grind (arith, nat_tests) in let below : nat_lt n (n + 1) ≡ true = grind (arith, nat_tests) in rw (same, at, below, hasnt) refl

    there : (q : ℕ) → q ≢ n → ((nat_lt q n && other q) || own q) ≡ ((nat_lt q (n + 1) && other q) || own q)
    there q not = let same : nat_lt q (n + 1) ≡ nat_lt q n = grind (arith, nat_tests) in rw same refl

pub fill_end : (other own : ℕ → Bool) (n : ℕ) → 256 ≤ n → filled other own n ≡ bytes_where (λ b. other b || own b)
fill_end other own n all = same_where _ _ (λ q lt. let below : nat_lt q n ≡ true = grind (arith, nat_tests) in rw below refl)
