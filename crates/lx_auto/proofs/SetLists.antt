-- The growth of the table of sets.
use Rattle.std.proofs.Common.{◌≡◌, ℕ, zero, suc, ◌+◌, ◌*◌, ◌<◌, List, [], ◌∷◌, ◌++◌, length, get_or, Option, Some, None, refl, ◌∙◌, ap, arith, inl, inr}
use Rattle.std.proofs.lemmas.Bool.{cases_lt}
use Rattle.std.proofs.lemmas.Grind.{common_steps}
use Rattle.std.proofs.lemmas.Nat.{row_fits}
use Rattle.std.proofs.lemmas.Option.{slice_get_read}
use Rattle.lx_auto.specs.SetTable.{Positions, words_of, set_of, IsTarget, IsExtendedBy}

pub set_of_kept : (xs : List Positions) (x : Positions) (i : ℕ) → i < length xs → set_of (xs ++ x ∷ []) i ≡ set_of xs i
set_of_kept [] x i h = absurd (omega arith)
set_of_kept (y ∷ xs) x zero h = refl
set_of_kept (y ∷ xs) x (suc i) h = set_of_kept xs x i (omega arith)

pub set_of_last : (xs : List Positions) (x : Positions) → set_of (xs ++ x ∷ []) (length xs) ≡ x.items
set_of_last [] x = refl
set_of_last (y ∷ xs) x = set_of_last xs x

pub set_of_read : (xs : List Positions) (i : ℕ) (v : Positions) → i < length xs → v ≡ get_or xs i v → set_of xs i ≡ v.items
set_of_read xs i v h e = ap words_of (slice_get_read xs (length xs) i v refl h e)

pub extended_by_nothing : (xs : List Positions) (set : List ℕ) → IsExtendedBy xs xs set
extended_by_nothing xs set = record { more = omega arith; at_most = omega arith; kept = λ i h. refl; added = λ i l h. absurd (omega arith) }

pub length_push : (xs : List Positions) (x : Positions) → length (xs ++ x ∷ []) ≡ length xs + 1
length_push xs x = grind (arith, common_steps)

pub extended_by_push : (xs : List Positions) (x : Positions) → IsExtendedBy xs (xs ++ x ∷ []) x.items
extended_by_push xs x = let l = length_push xs x in record {
  more = omega arith;
  at_most = omega arith;
  kept = λ i h. set_of_kept xs x i h;
  added = λ i low h. let e : i ≡ length xs = omega arith in rw e (set_of_last xs x);
}

pub target_kept : (old new : List Positions) (set : List ℕ) → IsExtendedBy old new set → (t : Option ℕ) (s : List ℕ) → IsTarget old t s → IsTarget new t s
target_kept old new set on None s h = h
target_kept old new set on (Some j) s h = let k = on.more in let l = h.1 in (h.0, omega arith, on.kept j h.1 ∙ h.2)

pub row_below : (i c w n : ℕ) → i * w + c < n * w → i < n
row_below i c w n h = elim (cases_lt i n) [
  | inl l ↦ l
  | inr l ↦ elim (cases_lt n i) [
    | inl m ↦ let r = row_fits n w i w m (omega arith) in absurd (omega arith)
    | inr m ↦ let e : n ≡ i = omega arith in let f = ap (λ x. x * w) e in absurd (omega arith)
  ]
]

pub same_row : (i j c d w : ℕ) → c < w → d < w → i * w + c ≡ j * w + d → (i ≡ j) × (c ≡ d)
same_row i j c d w hc hd e = elim (cases_lt i j) [
  | inl l ↦ let r = row_fits i w j w l (omega arith) in absurd (omega arith)
  | inr l ↦ elim (cases_lt j i) [
    | inl m ↦ let r = row_fits j w i w m (omega arith) in absurd (omega arith)
    | inr m ↦ let f : i ≡ j = omega arith in let g = ap (λ x. x * w) f in (f, omega arith)
  ]
]
