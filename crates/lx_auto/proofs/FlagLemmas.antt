-- Flags in lists that are joined.
use Rattle.std.proofs.Common.{◌≡◌, ◌≢◌, ℕ, zero, suc, ◌+◌, ◌<◌, Bool, List, [], ◌∷◌, ◌++◌, length, refl, ◌∙◌, ap, arith}
use Rattle.std.specs.Prelude.{slice_set}
use Rattle.lx_auto.specs.Marking.{flag}

pub flag_left : (xs ys : List Bool) (i : ℕ) → i < length xs → flag (xs ++ ys) i ≡ flag xs i
flag_left [] ys i h = absurd (omega arith)
flag_left (x ∷ xs) ys zero h = refl
flag_left (x ∷ xs) ys (suc i) h = flag_left xs ys i (omega arith)

pub flag_right : (xs ys : List Bool) (i : ℕ) → flag (xs ++ ys) (length xs + i) ≡ flag ys i
flag_right [] ys i = ap (λ k. flag ys k) (let e : 0 + i ≡ i = omega arith in e)
flag_right (x ∷ xs) ys i = ap (λ k. flag (x ∷ (xs ++ ys)) k) (let e : suc (length xs) + i ≡ suc (length xs + i) = omega arith in e) ∙ flag_right xs ys i

pub length_joined : {A : Type 0} → (xs ys : List A) → length (xs ++ ys) ≡ length xs + length ys
length_joined [] ys = omega arith
length_joined (x ∷ xs) ys = let e = length_joined xs ys in omega arith

pub flag_set_same : (xs : List Bool) (i : ℕ) (f : Bool) → i < length xs → flag (slice_set xs i f) i ≡ f
flag_set_same [] i f h = absurd (omega arith)
flag_set_same (x ∷ xs) zero f h = refl
flag_set_same (x ∷ xs) (suc i) f h = flag_set_same xs i f (omega arith)

pub flag_set_other : (xs : List Bool) (i j : ℕ) (f : Bool) → j ≢ i → flag (slice_set xs i f) j ≡ flag xs j
flag_set_other [] i j f ne = refl
flag_set_other (x ∷ xs) zero zero f ne = absurd (ne refl)
flag_set_other (x ∷ xs) zero (suc j) f ne = refl
flag_set_other (x ∷ xs) (suc i) zero f ne = refl
flag_set_other (x ∷ xs) (suc i) (suc j) f ne = flag_set_other xs i j f (λ e. ne (ap suc e))

pub length_set : (xs : List Bool) (i : ℕ) (f : Bool) → length (slice_set xs i f) ≡ length xs
length_set [] i f = refl
length_set (x ∷ xs) zero f = refl
length_set (x ∷ xs) (suc i) f = ap suc (length_set xs i f)
