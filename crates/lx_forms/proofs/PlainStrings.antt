-- The bytes of a text that a string shows unescaped, and those that are ASCII.
use Rattle.std.proofs.Common.{◌≡◌, ℕ, zero, suc, ◌%◌, ◌^◌, ◌<◌, ◌≤◌, Bool, true, false, not, cond, ◌||◌, eqb, ltb, List, [], ◌∷◌, length, take, map, replicate, refl, ap, ◌∙◌, subst, arith, take-take, length-take-le}
use Rattle.std.specs.List.{prefix_len}
use Rattle.std.specs.Int.Bits.{bit_or}
use Rattle.std.specs.Str.{IsAscii, is_utf8}
use Rattle.std.proofs.lemmas.List.{length-map}
use Rattle.std.proofs.lemmas.Simd.{mask_l-mod}
use Rattle.std.proofs.lemmas.Str.{IsUtf8-from_ascii, is_utf8-from_IsUtf8}
use lib.Count.{count_trailing_zeros}
use lib.Lanes.{mask_l, top, zip2}
use Rattle.lx_line.proofs.Unescaped.{before_first, plain_step}
use Rattle.lx_forms.specs.JsonLines.{string_escaped}

abbrev pub is_escaped : ℕ → Bool
is_escaped x = (ltb x 32 || eqb x 34) || eqb x 92

-- the result of three comparisons of a lane, in its top bit
one_lane : (a b c : Bool) → top 7 (bit_or (bit_or (cond a 255 0) (cond b 255 0)) (cond c 255 0)) ≡ ((a || b) || c)
one_lane true true true = refl
one_lane true true false = refl
one_lane true false true = refl
one_lane true false false = refl
one_lane false true true = refl
one_lane false true false = refl
one_lane false false true = refl
one_lane false false false = refl

-- the vector of three comparisons
abbrev compared : ℕ → List ℕ → List ℕ
compared n xs =
    zip2 (λ a b. bit_or a b)
    (zip2 (λ a b. bit_or a b) (zip2 (λ a b. cond (ltb a b) 255 0) xs (replicate n 32)) (zip2 (λ a b. cond (eqb a b) 255 0) xs (replicate n 34)))
    (zip2 (λ a b. cond (eqb a b) 255 0) xs (replicate n 92))

lanes : (n : ℕ) (xs : List ℕ) → length xs ≡ n → map (top 7) (compared n xs) ≡ map is_escaped xs
lanes n [] e = refl
lanes zero (x ∷ xs) e = absurd (omega arith)
lanes (suc n) (x ∷ xs) e = ap (λ (b : Bool). b ∷ map (top 7) (compared n xs)) (one_lane (ltb x 32) (eqb x 34) (eqb x 92)) ∙ ap (λ (bs : List Bool). is_escaped x ∷ bs) (lanes n xs (omega arith))

pub mask_of : (xs : List ℕ) → length xs ≡ 16 → mask_l (map (top 7) (compared 16 xs)) % 2 ^ 64 ≡ mask_l (map is_escaped xs)
mask_of xs e =
    ap (λ (ms : List Bool). mask_l ms % 2 ^ 64) (lanes 16 xs e)
    ∙ mask_l-mod (map is_escaped xs) 64 (omega (arith, length-map xs is_escaped))

pub as_it_is : (x : ℕ) → is_escaped x ≡ false → string_escaped x ≡ x ∷ []
as_it_is x e = grind arith

abbrev is_high : ℕ → Bool
is_high x = ltb 127 x

one_ascii : (x : ℕ) (xs : List ℕ) → x < 128 → IsAscii xs → IsAscii (x ∷ xs)
one_ascii x xs small rest zero = small
one_ascii x xs small rest (suc i) = rest i

-- the first bytes, none of which is above 127
first_ascii : (n : ℕ) (xs : List ℕ) → n ≤ prefix_len (λ y. not (is_high y)) xs → IsAscii (take n xs)
first_ascii zero xs h = λ i. omega arith
first_ascii (suc n) [] h = λ i. omega arith
first_ascii (suc n) (x ∷ xs) h =
    let s = plain_step is_high x xs n h in
    let small : x < 128 = grind arith in
    one_ascii x (take n xs) small (first_ascii n xs s.1)

one_high : (b : Bool) → top 7 (cond b 255 0) ≡ b
one_high true = refl
one_high false = refl

-- the vector of a comparison
abbrev compared_high : ℕ → List ℕ → List ℕ
compared_high n xs = zip2 (λ a b. cond (ltb a b) 255 0) (replicate n 127) xs

high_lanes : (n : ℕ) (xs : List ℕ) → length xs ≡ n → map (top 7) (compared_high n xs) ≡ map is_high xs
high_lanes zero [] e = refl
high_lanes (suc n) [] e = absurd (omega arith)
high_lanes zero (x ∷ xs) e = absurd (omega arith)
high_lanes (suc n) (x ∷ xs) e = ap (λ (b : Bool). b ∷ map (top 7) (compared_high n xs)) (one_high (is_high x)) ∙ ap (λ (bs : List Bool). is_high x ∷ bs) (high_lanes n xs (omega arith))

high_mask : (xs : List ℕ) → length xs ≡ 16 → mask_l (map (top 7) (compared_high 16 xs)) % 2 ^ 64 ≡ mask_l (map is_high xs)
high_mask xs e =
    ap (λ (ms : List Bool). mask_l ms % 2 ^ 64) (high_lanes 16 xs e)
    ∙ mask_l-mod (map is_high xs) 64 (omega (arith, length-map xs is_high))

pub ascii_lanes : (xs : List ℕ) (n : ℕ) → 16 ≤ length xs → n ≤ 16 → n ≤ count_trailing_zeros 64 (mask_l (map (top 7) (compared_high 16 (take 16 xs))) % 2 ^ 64) → is_utf8 (take n xs) ≡ true
ascii_lanes xs n long few h =
    let front = take 16 xs in
    let whole : length front ≡ 16 = length-take-le 16 xs long in
    let first = before_first is_high front n whole few (subst (λ (k : ℕ). n ≤ count_trailing_zeros 64 k) (high_mask front whole) h) in
    let ascii : IsAscii (take n xs) = subst IsAscii (take-take n 16 xs few) (first_ascii n front first) in
    is_utf8-from_IsUtf8 (take n xs) (IsUtf8-from_ascii (take n xs) ascii)
