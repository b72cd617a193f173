-- The number above several lists of numbers, and the lists that elements give.
use Rattle.std.proofs.Common.{ℕ, ◌≡◌, ◌<◌, ◌≤◌, ◌+◌, arith, List, [], ◌∷◌, ◌++◌, length, take, get_or, max, refl, ap, ◌∙◌, append-nil}
use Rattle.std.specs.List.{All, flat_map}
use Rattle.std.proofs.lemmas.List.{take_more}
use Rattle.std.proofs.lemmas.Grind.{flat_map-append}
use Rattle.std.proofs.Math.Nat.{le-max_left, le-max_right}
use Rattle.std.proofs.lemmas.List.Elements.{All-nil, All-cons}
use Rattle.lx_tables.specs.Model.{Table}
use Rattle.lx_c.specs.Numbers.{above, returned_by, first_kind, AreApart}

-- those of the first elements, and then that of the next
pub texts_more : {X : Type 0} (text : X → List ℕ) (xs : List X) (i : ℕ) (d : X) → i < length xs → flat_map text (take (i + 1) xs) ≡ flat_map text (take i xs) ++ text (get_or xs i d)
texts_more text xs i d l = ap (λ ys. flat_map text ys) (take_more xs i d l) ∙ (flat_map-append text (take i xs) (get_or xs i d ∷ []) ∙ ap (λ ys. flat_map text (take i xs) ++ ys) (append-nil (text (get_or xs i d))))

pub above-append : (n : ℕ) (xs ys : List ℕ) → above n (xs ++ ys) ≡ above (above n xs) ys
above-append n [] ys = refl
above-append n (x ∷ xs) ys = above-append (max n (x + 1)) xs ys

-- the numbers of the first elements, and then those of the next
pub above_more : {X : Type 0} (numbers : X → List ℕ) (n : ℕ) (xs : List X) (i : ℕ) (d : X) → i < length xs →
    above n (flat_map numbers (take (i + 1) xs)) ≡ above (above n (flat_map numbers (take i xs))) (numbers (get_or xs i d))
above_more numbers n xs i d l = ap (λ ns. above n ns) (texts_more numbers xs i d l) ∙ above-append n (flat_map numbers (take i xs)) (numbers (get_or xs i d))

above_from : (n : ℕ) (numbers : List ℕ) → n ≤ above n numbers
above_from n [] = omega arith
above_from n (m ∷ numbers) = omega (arith, le-max_left n (m + 1), above_from (max n (m + 1)) numbers)

above_each : (n most : ℕ) (numbers : List ℕ) → above n numbers ≤ most → All (λ m. m < most) numbers
above_each n most [] l = All-nil (λ m. m < most)
above_each n most (m ∷ numbers) l =
    All-cons (λ k. k < most) m numbers (omega (arith, l, le-max_right n (m + 1), above_from (max n (m + 1)) numbers)) (above_each (max n (m + 1)) most numbers l)

pub are_apart : (table : Table) → AreApart table
are_apart table =
    let numbers = flat_map (λ rule. returned_by rule.steps) table.rules in
    record { bytes = above_from 256 numbers; numbers = above_each 256 (first_kind table) numbers (omega arith) }
