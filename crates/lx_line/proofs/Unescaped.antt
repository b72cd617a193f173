-- The bytes of a text that a line shows unescaped.
use Rattle.std.proofs.Common.{◌≡◌, ℕ, zero, suc, ◌+◌, ◌-◌, ◌%◌, ◌^◌, ◌<◌, ◌≤◌, Bool, true, false, not, cond, ◌||◌, eqb, ltb, List, [], ◌∷◌, ◌++◌, length, take, drop, map, replicate, refl, sym, append_assoc, ap, ◌∙◌, arith, take-take, append-nil, get_or, length-append, length-take-le, lit≤}
use Rattle.std.specs.List.{flat_map, prefix_len}
use Rattle.std.specs.Int.Bits.{bit_or}
use Rattle.std.proofs.Math.Nat.{pow-succ'}
use Rattle.std.proofs.Math.Seq.{take-add}
use Rattle.std.proofs.lemmas.Bool.{eqb-false, le-leb, ne_eqb}
use Rattle.std.proofs.lemmas.Grind.{flat_map-append}
use Rattle.std.proofs.lemmas.List.{drop-drop, drop_more, length-map}
use Rattle.std.proofs.lemmas.List.Sums.{prefix_len-le-length}
use Rattle.std.proofs.lemmas.Simd.{first_set_mask_l, mask_l-lt, mask_l-mod, trailing_mask_l}
use lib.Count.{count_trailing_zeros}
use lib.Lanes.{mask_l, top, zip2}
use Rattle.lx_line.specs.Escapes.{ShowsPlain, escaped, name_escaped}
use Rattle.lx_line.specs.Placed.{Placed}
use Rattle.lx_line.proofs.Places.{Placed-is, Placed-then}

-- a byte that isn't plain, if the least plain one is given
abbrev pub is_escaped : ℕ → ℕ → Bool
is_escaped least x = (ltb x least || ltb 126 x) || eqb x 92

-- the result of three comparisons of a lane, in its top bit
one_lane : (a b c : Bool) → top 7 (bit_or (bit_or (cond a 255 0) (cond b 255 0)) (cond c 255 0)) ≡ ((a || b) || c)
one_lane true true true = refl
one_lane true true false = refl
one_lane true false true = refl
one_lane true false false = refl
one_lane false true true = refl
one_lane false true false = refl
one_lane false false true = refl
one_lane false false false = refl

-- the vector of three comparisons
abbrev compared : ℕ → ℕ → List ℕ → List ℕ
compared least n xs =
    zip2 (λ a b. bit_or a b)
    (zip2 (λ a b. bit_or a b) (zip2 (λ a b. cond (ltb a b) 255 0) xs (replicate n least)) (zip2 (λ a b. cond (ltb a b) 255 0) (replicate n 126) xs))
    (zip2 (λ a b. cond (eqb a b) 255 0) xs (replicate n 92))

lanes : (least n : ℕ) (xs : List ℕ) → length xs ≡ n → map (top 7) (compared least n xs) ≡ map (is_escaped least) xs
lanes least n [] e = refl
lanes least zero (x ∷ xs) e = absurd (omega arith)
lanes least (suc n) (x ∷ xs) e = ap (λ (b : Bool). b ∷ map (top 7) (compared least n xs)) (one_lane (ltb x least) (ltb 126 x) (eqb x 92)) ∙ ap (λ (bs : List Bool). is_escaped least x ∷ bs) (lanes least n xs (omega arith))

pub mask_of : (least : ℕ) (xs : List ℕ) → length xs ≡ 16 → mask_l (map (top 7) (compared least 16 xs)) % 2 ^ 64 ≡ mask_l (map (is_escaped least) xs)
mask_of least xs e =
    ap (λ (ms : List Bool). mask_l ms % 2 ^ 64) (lanes least 16 xs e)
    ∙ mask_l-mod (map (is_escaped least) xs) 64 (omega (arith, length-map xs (is_escaped least)))

pub as_it_is : (least x : ℕ) (shown : ℕ → List ℕ) → ShowsPlain least shown → is_escaped least x ≡ false → shown x ≡ x ∷ []
as_it_is least x shown is e =
    let low : least ≤ x = grind arith in
    let high : x ≤ 126 = grind arith in
    let apart : eqb x 92 ≡ false = grind arith in
    is.plain x low high (eqb-false x 92 apart)

pub texts_plain : ShowsPlain 32 escaped
texts_plain = record { plain = λ x low high apart. rw (ne_eqb x 92 apart, le-leb 32 x low, le-leb x 126 high) refl }

pub names_plain : ShowsPlain 33 name_escaped
names_plain = record {
  plain = λ x low high apart. rw (ne_eqb x 32 (λ e. omega arith), ne_eqb x 92 apart, le-leb 32 x (omega arith), le-leb x 126 high) refl;
}

plain_by : (b : Bool) (n r : ℕ) → suc n ≤ cond (not b) (1 + r) 0 → (b ≡ false) × (n ≤ r)
plain_by true n r h = absurd (omega arith)
plain_by false n r h = (refl, omega arith)

pub plain_step : (p : ℕ → Bool) (x : ℕ) (xs : List ℕ) (n : ℕ) → suc n ≤ prefix_len (λ y. not (p y)) (x ∷ xs) → (p x ≡ false) × (n ≤ prefix_len (λ y. not (p y)) xs)
plain_step p x xs n h = plain_by (p x) n (prefix_len (λ y. not (p y)) xs) h

-- the first bytes, none of which passes the test, if other bytes are unescaped
first_plain : (p : ℕ → Bool) (escape : ℕ → List ℕ) → ((x : ℕ) → p x ≡ false → escape x ≡ x ∷ []) → (n : ℕ) (xs : List ℕ) → n ≤ prefix_len (λ y. not (p y)) xs → flat_map escape (take n xs) ≡ take n xs
first_plain p escape same zero xs h = refl
first_plain p escape same (suc n) [] h = refl
first_plain p escape same (suc n) (x ∷ xs) h =
    let s = plain_step p x xs n h in
    ap (λ (bs : List ℕ). bs ++ flat_map escape (take n xs)) (same x s.0) ∙ ap (λ (bs : List ℕ). x ∷ bs) (first_plain p escape same n xs s.1)

below_first : (none : Bool) (n r t : ℕ) → n ≤ 16 → cond none 16 t ≡ r → n ≤ t → n ≤ r
below_first true n r t few e h = omega arith
below_first false n r t few e h = omega arith

-- the first n of 16 bytes, which come before the first that passes a test
pub before_first : (p : ℕ → Bool) (xs : List ℕ) (n : ℕ) → length xs ≡ 16 → n ≤ 16 → n ≤ count_trailing_zeros 64 (mask_l (map p xs)) → n ≤ prefix_len (λ y. not (p y)) xs
before_first p xs n whole few h =
    let m = mask_l (map p xs) in
    below_first (eqb m 0) n (prefix_len (λ y. not (p y)) xs) (count_trailing_zeros 64 m) few (first_set_mask_l p xs 16 whole (lit≤ tt)) h

-- the bits of a mask, and one after them
mask_more : (p : ℕ → Bool) (xs : List ℕ) → mask_l (map (λ (b : Bool). b) (map p xs ++ true ∷ [])) ≡ mask_l (map p xs) + 2 ^ length xs
mask_more p [] = refl
mask_more p (x ∷ xs) =
    let rest = mask_more p xs in
    let twice = pow-succ' 2 (length xs) in
    omega (arith, rest, twice)

before_bit : (p : ℕ → Bool) (xs : List ℕ) → prefix_len (λ b. not b) (map p xs ++ true ∷ []) ≡ prefix_len (λ y. not (p y)) xs
before_bit p [] = refl
before_bit p (x ∷ xs) = ap (λ (r : ℕ). cond (not (p x)) (1 + r) 0) (before_bit p xs)

-- the number of bytes before the first of 16 that passes a test, by a mask with a bit after it
counted : (p : ℕ → Bool) (xs : List ℕ) → length xs ≡ 16 → count_trailing_zeros 64 (mask_l (map p xs) + 65536) ≡ prefix_len (λ y. not (p y)) xs
counted p xs whole =
    let bits = map p xs ++ true ∷ [] in
    let bit : 2 ^ length xs ≡ 65536 = ap (λ (n : ℕ). 2 ^ n) whole in
    let all : mask_l (map (λ (b : Bool). b) bits) ≡ mask_l (map p xs) + 65536 = mask_more p xs ∙ ap (λ (n : ℕ). mask_l (map p xs) + n) bit in
    ap (count_trailing_zeros 64) (sym all)
    ∙ trailing_mask_l (λ (b : Bool). b) 64 bits (omega (arith, length-append (map p xs) (true ∷ []), length-map xs p)) (omega (arith, all))
    ∙ before_bit p xs

-- the number of bytes before the first of 16 that passes a test, by the mask of the test
pub mask_counted : (p : ℕ → Bool) (xs : List ℕ) (mask : ℕ) → 16 ≤ length xs → mask ≡ mask_l (map p (take 16 xs)) → count_trailing_zeros 64 (mask + 65536) ≡ prefix_len (λ y. not (p y)) (take 16 xs)
mask_counted p xs mask long is = ap (λ (m : ℕ). count_trailing_zeros 64 (m + 65536)) is ∙ counted p (take 16 xs) (length-take-le 16 xs long)

-- there is room for a bit after the mask
pub mask_small : (p : ℕ → Bool) (xs : List ℕ) (mask : ℕ) → 16 ≤ length xs → mask ≡ mask_l (map p (take 16 xs)) → mask < 65536
mask_small p xs mask long is =
    let bits = map p (take 16 xs) in
    let many : 2 ^ length bits ≡ 65536 = ap (λ (n : ℕ). 2 ^ n) (length-map (take 16 xs) p ∙ length-take-le 16 xs long) in
    omega (arith, is, mask_l-lt bits, many)

-- the count is at most sixteen
pub count_few : (p : ℕ → Bool) (xs : List ℕ) (count : ℕ) → 16 ≤ length xs → count ≡ prefix_len (λ y. not (p y)) (take 16 xs) → count ≤ 16
count_few p xs count long is =
    omega (arith, is, length-take-le 16 xs long, prefix_len-le-length (λ y. not (p y)) (take 16 xs))

-- and its bytes are unescaped
pub count_plain : (p : ℕ → Bool) (shown : ℕ → List ℕ) → ((x : ℕ) → p x ≡ false → shown x ≡ x ∷ []) → (xs : List ℕ) (count n : ℕ) → 16 ≤ length xs → count ≡ prefix_len (λ y. not (p y)) (take 16 xs) → n ≤ count → flat_map shown (take n xs) ≡ take n xs
count_plain p shown plain xs count n long is few =
    let same = take-take n 16 xs (omega (arith, count_few p xs count long is)) in
    ap (flat_map shown) (sym same) ∙ first_plain p shown plain n (take 16 xs) (omega (arith, is)) ∙ same

pub text_parts : (escape : ℕ → List ℕ) (bytes : List ℕ) (start done part : ℕ) → flat_map escape (take done (drop start bytes)) ++ flat_map escape (take part (drop (start + done) bytes)) ≡ flat_map escape (take (done + part) (drop start bytes))
text_parts escape bytes start done part =
    ap (λ (xs : List ℕ). flat_map escape (take done (drop start bytes)) ++ flat_map escape (take part xs)) (sym (drop-drop done start bytes))
    ∙ sym (flat_map-append escape (take done (drop start bytes)) (take part (drop done (drop start bytes))))
    ∙ ap (flat_map escape) (sym (take-add done part (drop start bytes)))

-- A text of which the first bytes are placed, and then further ones.
pub text_more : {a b c : List ℕ} {at mid end : ℕ} (escape : ℕ → List ℕ) (bytes : List ℕ) (start done part : ℕ) → Placed a b at (flat_map escape (take done (drop start bytes))) mid → Placed b c mid (flat_map escape (take part (drop (start + done) bytes))) end → Placed a c at (flat_map escape (take (done + part) (drop start bytes))) end
text_more escape bytes start done part p q = Placed-is (Placed-then p q) (text_parts escape bytes start done part)

-- some bytes as they are, and one more
pub plain_and_one : {a b c : List ℕ} {at mid end : ℕ} (escape : ℕ → List ℕ) (bytes : List ℕ) (from count : ℕ) → from + count < length bytes → Placed a b at (take count (drop from bytes)) mid → flat_map escape (take count (drop from bytes)) ≡ take count (drop from bytes) → Placed b c mid (escape (get_or bytes (from + count) 0)) end → Placed a c at (flat_map escape (take (count + 1) (drop from bytes))) end
plain_and_one escape bytes from count within p plain q =
    let one : flat_map escape (take 1 (drop (from + count) bytes)) ≡ escape (get_or bytes (from + count) 0) =
    ap (λ (xs : List ℕ). flat_map escape (take 1 xs)) (drop_more bytes (from + count) 0 within) ∙ append-nil (escape (get_or bytes (from + count) 0)) in
    text_more escape bytes from count 1 (Placed-is p (sym plain)) (Placed-is q (sym one))

-- the same after other bytes
pub pushed_more : (escape : ℕ → List ℕ) (before mid new text : List ℕ) (done part : ℕ) → mid ≡ before ++ flat_map escape (take done text) → new ≡ mid ++ flat_map escape (take (done + part - done) (drop done text)) → new ≡ before ++ flat_map escape (take (done + part) text)
pushed_more escape before mid new text done part p q =
    let count : done + part - done ≡ part = omega arith in
    q
    ∙ ap (λ (bs : List ℕ). bs ++ flat_map escape (take (done + part - done) (drop done text))) p
    ∙ ap (λ (k : ℕ). (before ++ flat_map escape (take done text)) ++ flat_map escape (take k (drop done text))) count
    ∙ append_assoc before (flat_map escape (take done text)) (flat_map escape (take part (drop done text)))
    ∙ ap (λ (bs : List ℕ). before ++ bs) (sym (flat_map-append escape (take done text) (take part (drop done text))) ∙ ap (flat_map escape) (sym (take-add done part text)))
