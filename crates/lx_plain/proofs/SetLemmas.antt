-- Sets of places, as a loop over one of them sees them.
use Rattle.std.proofs.Common.{◌≡◌, ℕ, ◌+◌, ◌||◌, ◌&&◌, Bool, true, false, cond, nat_eq, List, [], ◌∷◌, ◌++◌, refl, ap, ◌∙◌, arith, inl, inr, length, eqb-true}
use Rattle.std.specs.Ordering.{nat_cmp}
use Rattle.std.specs.List.{list_any}
use Rattle.std.specs.BTreeMap.{is_at}
use Rattle.std.specs.BTreeSet.{BTreeSet, btree_set_len, contains}
use Rattle.std.proofs.lemmas.Bool.{cases_eq}
use Rattle.std.proofs.lemmas.Bool.Decides.{nat_tests}
use Rattle.std.proofs.lemmas.List.Folds.{list_any-append}

-- the list has the number
abbrev pub has : List ℕ → ℕ → Bool
has xs q = list_any (is_at (nat_cmp q)) xs

-- a key's test is that of equal numbers
pub at_number : (k q : ℕ) → is_at (nat_cmp k) q ≡ nat_eq k q
at_number k q = grind (arith, nat_tests)

-- one after a seen number that passes a test, with one number more
pub next_more : (start i : ℕ) (seen : List ℕ) (passes : Bool) (old new : Bool) → new ≡ cond (is_at (nat_cmp (start + 1)) (i + 1)) true old → old ≡ (has seen i && passes) → (i ≡ start → passes ≡ true) →
    new ≡ (has (seen ++ start ∷ []) i && passes)
next_more start i seen passes old new is before pass =
    let step : has (seen ++ start ∷ []) i ≡ (has seen i || (nat_eq i start || false)) = list_any-append (is_at (nat_cmp i)) seen (start ∷ []) ∙ ap (λ (b : Bool). has seen i || (b || false)) (at_number i start) in
    let test : is_at (nat_cmp (start + 1)) (i + 1) ≡ nat_eq (start + 1) (i + 1) = at_number (start + 1) (i + 1) in
    elim (cases_eq i start) [
      | inl same ↦ grind (arith, nat_tests, step, test, is, before, pass same)
      | inr other ↦ grind (arith, nat_tests, step, test, is, before)
    ]

-- 0 is not among them
pub first_more : (start : ℕ) (old new : Bool) → new ≡ cond (is_at (nat_cmp (start + 1)) 0) true old → old ≡ false → new ≡ false
first_more start old new is before = let test : is_at (nat_cmp (start + 1)) 0 ≡ nat_eq (start + 1) 0 = at_number (start + 1) 0 in grind (arith, nat_tests, test, is, before)

abbrev pub is_empty : BTreeSet ℕ → Bool
is_empty s = nat_eq (btree_set_len s) 0

-- an empty set has nothing
pub nothing_in : (s : BTreeSet ℕ) (q : ℕ) → is_empty s ≡ true → contains nat_cmp s q ≡ false
nothing_in s q e = nothing (s.keys) (eqb-true (btree_set_len s) 0 e)
  where
    nothing : (xs : List ℕ) → length xs ≡ 0 → has xs q ≡ false
    nothing [] e = refl
    nothing (x ∷ xs) e = absurd (omega (arith, e))
