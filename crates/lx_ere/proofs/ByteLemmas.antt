-- The words that keep the set of the bytes that pass a test.
use Rattle.std.proofs.Common.{◌≡◌, ◌≢◌, ℕ, zero, suc, ◌+◌, ◌-◌, ◌*◌, ◌/◌, ◌%◌, ◌^◌, ◌<◌, ◌≤◌, max, Bool, true, false, ◌&&◌, ◌||◌, not, nat_eq, nat_lt, nat_le, cond, List, [], ◌∷◌, filter, refl, sym, ap, ◌∙◌, arith, get_or, set, length, bit_and, bit_or, inl, inr, get_or-set_same, get_or-set_other, w64, take, add-one}
use Rattle.std.specs.List.{list_any}
use Rattle.std.proofs.lemmas.Bool.Decides.{nat_tests}
use Rattle.std.specs.FinSet as byte_sets
use Rattle.std.specs.Int.{bit_at}
use Rattle.std.proofs.lemmas.Nat.Bits.{shr_and_one, bit_at_set_same, bit_at_set_other, bit_at_not, bit_at-lt, same_from_bits_below}
use Rattle.std.proofs.lemmas.Bool.{cases_eq}
use Rattle.std.specs.Bool.{Decides}
use Rattle.std.specs.Cmp.Lexicographic.{pointwise, bytes_decides}
use Rattle.lx_ere.specs.Bytes.{bytes_where, has_bit, is_between, in_ranges}
use Rattle.lx_ere.specs.ByteLaws.{agree, contains_where, same_where}

-- the shifted word's lowest bit is the bit
pub has_is : (words : List ℕ) (b : ℕ) → b < 256 → nat_eq (bit_and (get_or words (b / 64) 0 / 2 ^ (b % 64)) 1) 1 ≡ byte_sets.contains (bytes_where (has_bit words)) b
has_is words b h = rw (shr_and_one (get_or words (b / 64) 0) (b % 64)) (sym (contains_where (has_bit words) b h))

-- the words with the bit of a byte set
abbrev with_bit : List ℕ → ℕ → List ℕ
with_bit words byte = set words (byte / 64) (bit_or (get_or words (byte / 64) 0) (1 * 2 ^ (byte % 64) % 2 ^ 64))

has_bit-with_same : (words : List ℕ) (byte : ℕ) → length words ≡ 4 → byte < 256 → has_bit (with_bit words byte) byte ≡ true
has_bit-with_same words byte four h =
    let within : byte / 64 < length words = omega arith in
    let low : byte % 64 < 64 = omega arith in
    rw (get_or-set_same words (byte / 64) (bit_or (get_or words (byte / 64) 0) (1 * 2 ^ (byte % 64) % 2 ^ 64)) 0 within, bit_at_set_same w64 (get_or words (byte / 64) 0) (byte % 64) low) refl

has_bit-with_other : (words : List ℕ) (byte q : ℕ) → length words ≡ 4 → byte < 256 → q ≢ byte → has_bit (with_bit words byte) q ≡ has_bit words q
has_bit-with_other words byte q four h ne = elim (cases_eq (q / 64) (byte / 64)) [ inl same ↦ in_word same | inr other ↦ elsewhere other ]
  where
    elsewhere : q / 64 ≢ byte / 64 → has_bit (with_bit words byte) q ≡ has_bit words q
    elsewhere other = rw (get_or-set_other words (byte / 64) (q / 64) (bit_or (get_or words (byte / 64) 0) (1 * 2 ^ (byte % 64) % 2 ^ 64)) 0 other) refl

    in_word : q / 64 ≡ byte / 64 → has_bit (with_bit words byte) q ≡ has_bit words q
    in_word same =
        let within : byte / 64 < length words = omega arith in
        let low : byte % 64 < 64 = omega arith in
        let apart : q % 64 ≢ byte % 64 = λ e. ne (omega arith) in
        rw same (rw (get_or-set_same words (byte / 64) (bit_or (get_or words (byte / 64) 0) (1 * 2 ^ (byte % 64) % 2 ^ 64)) 0 within, bit_at_set_other w64 (get_or words (byte / 64) 0) (byte % 64) low (q % 64) apart) refl)

pub insert_is : (words : List ℕ) (byte : ℕ) → length words ≡ 4 → byte < 256 → (test : ℕ → Bool) → bytes_where (has_bit words) ≡ bytes_where test →
    bytes_where (has_bit (with_bit words byte)) ≡ bytes_where (λ b. is_between byte byte b || test b)
insert_is words byte four h test e = same_where (has_bit (with_bit words byte)) (λ b. is_between byte byte b || test b) (λ q lt. elim (cases_eq q byte) [ inl same ↦ here q same | inr other ↦ there q lt other ])
  where
    here : (q : ℕ) → q ≡ byte → has_bit (with_bit words byte) q ≡ (is_between byte byte q || test q)
    here q same = let within : is_between byte byte byte ≡ true = grind (arith, nat_tests) in rw (same, within) (has_bit-with_same words byte four h)

    there : (q : ℕ) → q < 256 → q ≢ byte → has_bit (with_bit words byte) q ≡ (is_between byte byte q || test q)
    there q lt other = let outside : is_between byte byte q ≡ false = grind (arith, nat_tests) in rw outside (has_bit-with_other words byte q four h other ∙ agree (has_bit words) test e q lt)

-- one more byte of a range
pub range_more : (first byte : ℕ) (test : ℕ → Bool) → first ≤ byte → bytes_where (λ b. is_between byte byte b || ((nat_le first b && nat_lt b byte) || test b)) ≡ bytes_where (λ b. (nat_le first b && nat_lt b (byte + 1)) || test b)
range_more first byte test h = same_where _ _ (λ q lt. let grows : (nat_le first q && nat_lt q (byte + 1)) ≡ (is_between byte byte q || (nat_le first q && nat_lt q byte)) = grind (arith, nat_tests) in rw grows (sym (or_assoc (is_between byte byte q) (nat_le first q && nat_lt q byte) (test q))))
  where
    or_assoc : (a b c : Bool) → ((a || b) || c) ≡ (a || (b || c))
    or_assoc true b c = refl
    or_assoc false b c = refl

pub range_none : (first : ℕ) (test : ℕ → Bool) → bytes_where test ≡ bytes_where (λ b. (nat_le first b && nat_lt b first) || test b)
range_none first test = same_where _ _ (λ q lt. let none : (nat_le first q && nat_lt q first) ≡ false = grind (arith, nat_tests) in rw none refl)

pub range_all : (first last byte : ℕ) (test : ℕ → Bool) → last < byte → byte ≤ max first (last + 1) → bytes_where (λ b. (nat_le first b && nat_lt b byte) || test b) ≡ bytes_where (λ b. is_between first last b || test b)
range_all first last byte test past within = same_where _ _ (λ q lt. let same : (nat_le first q && nat_lt q byte) ≡ is_between first last q = same_range first last byte q past within in rw same refl)
  where
    same_range : (first last byte q : ℕ) → last < byte → byte ≤ max first (last + 1) → (nat_le first q && nat_lt q byte) ≡ is_between first last q
    same_range first last byte q past within = grind (arith, nat_tests)

four_words : (words : List ℕ) → length words ≡ 4 → words ≡ get_or words 0 0 ∷ get_or words 1 0 ∷ get_or words 2 0 ∷ get_or words 3 0 ∷ []
four_words [] e = absurd (omega (arith, e))
four_words (a ∷ []) e = absurd (omega (arith, e))
four_words (a ∷ b ∷ []) e = absurd (omega (arith, e))
four_words (a ∷ b ∷ c ∷ []) e = absurd (omega (arith, e))
four_words (a ∷ b ∷ c ∷ d ∷ []) e = refl
four_words (a ∷ b ∷ c ∷ d ∷ x ∷ words) e = absurd (omega (arith, e))

abbrev all_ones : ℕ
all_ones = 18446744073709551615

flipped_at : (a b c d k : ℕ) → k < 4 → get_or ((all_ones - a) ∷ (all_ones - b) ∷ (all_ones - c) ∷ (all_ones - d) ∷ []) k 0 ≡ all_ones - get_or (a ∷ b ∷ c ∷ d ∷ []) k 0
flipped_at a b c d zero h = refl
flipped_at a b c d (suc zero) h = refl
flipped_at a b c d (suc (suc zero)) h = refl
flipped_at a b c d (suc (suc (suc zero))) h = refl
flipped_at a b c d (suc (suc (suc (suc k)))) h = absurd (omega (arith, h))

pub complement_is : (words : List ℕ) → length words ≡ 4 → get_or words 0 0 < 2 ^ 64 → get_or words 1 0 < 2 ^ 64 → get_or words 2 0 < 2 ^ 64 → get_or words 3 0 < 2 ^ 64 → (test : ℕ → Bool) → bytes_where (has_bit words) ≡ bytes_where test →
    bytes_where (has_bit ((all_ones - get_or words 0 0) ∷ (all_ones - get_or words 1 0) ∷ (all_ones - get_or words 2 0) ∷ (all_ones - get_or words 3 0) ∷ [])) ≡ bytes_where (λ b. not (test b))
complement_is words four fits0 fits1 fits2 fits3 test e = same_where _ _ (λ q lt. flips q lt)
  where
    fits : (k : ℕ) → k < 4 → get_or words k 0 < 2 ^ 64
    fits zero lt = fits0
    fits (suc zero) lt = fits1
    fits (suc (suc zero)) lt = fits2
    fits (suc (suc (suc zero))) lt = fits3
    fits (suc (suc (suc (suc k)))) lt = absurd (omega (arith, lt))

    not_one : (n : ℕ) → n < 2 → nat_eq (1 - n) 1 ≡ not (nat_eq n 1)
    not_one n h = grind (arith, nat_tests)

    flips : (q : ℕ) → q < 256 → has_bit ((all_ones - get_or words 0 0) ∷ (all_ones - get_or words 1 0) ∷ (all_ones - get_or words 2 0) ∷ (all_ones - get_or words 3 0) ∷ []) q ≡ not (test q)
    flips q lt =
        let k : q / 64 < 4 = omega arith in
        let low : q % 64 < 64 = omega arith in
        let word : get_or ((all_ones - get_or words 0 0) ∷ (all_ones - get_or words 1 0) ∷ (all_ones - get_or words 2 0) ∷ (all_ones - get_or words 3 0) ∷ []) (q / 64) 0 ≡ all_ones - get_or words (q / 64) 0
        = flipped_at (get_or words 0 0) (get_or words 1 0) (get_or words 2 0) (get_or words 3 0) (q / 64) k ∙ ap (λ xs. all_ones - get_or xs (q / 64) 0) (sym (four_words words four)) in
        ap (λ w. nat_eq (bit_at w (q % 64)) 1) word ∙ (ap (λ n. nat_eq n 1) (bit_at_not w64 (get_or words (q / 64) 0) (q % 64) (fits (q / 64) k) low) ∙ (not_one (bit_at (get_or words (q / 64) 0) (q % 64)) (bit_at-lt (get_or words (q / 64) 0) (q % 64)) ∙ ap not (agree (has_bit words) test e q lt)))

-- one more range
in_ranges_more : (ranges : List (ℕ × ℕ)) (i : ℕ) (d : ℕ × ℕ) (b : ℕ) → i < length ranges → in_ranges (take (suc i) ranges) b ≡ (in_ranges (take i ranges) b || is_between ((get_or ranges i d).0) ((get_or ranges i d).1) b)
in_ranges_more [] i d b h = absurd (omega (arith, h))
in_ranges_more (r ∷ ranges) zero d b h = or_none (is_between (r.0) (r.1) b)
  where
    or_none : (x : Bool) → (x || false) ≡ x
    or_none true = refl
    or_none false = refl
in_ranges_more (r ∷ ranges) (suc i) d b h = ap (λ x. is_between (r.0) (r.1) b || x) (in_ranges_more ranges i d b (omega (arith, h))) ∙ assoc (is_between (r.0) (r.1) b) (in_ranges (take i ranges) b) (is_between ((get_or ranges i d).0) ((get_or ranges i d).1) b)
  where
    assoc : (x y z : Bool) → (x || (y || z)) ≡ ((x || y) || z)
    assoc true y z = refl
    assoc false y z = refl

pub ranges_more : (ranges : List (ℕ × ℕ)) (i : ℕ) (d : ℕ × ℕ) (test : ℕ → Bool) → i < length ranges →
    bytes_where (λ b. is_between ((get_or ranges i d).0) ((get_or ranges i d).1) b || (in_ranges (take i ranges) b || test b)) ≡ bytes_where (λ b. in_ranges (take (i + 1) ranges) b || test b)
ranges_more ranges i d test h = same_where _ (λ b. in_ranges (take (i + 1) ranges) b || test b) (λ b _. moved (is_between ((get_or ranges i d).0) ((get_or ranges i d).1) b) (in_ranges (take i ranges) b) (test b)
    ∙ (ap (λ x. x || test b) (sym (in_ranges_more ranges i d b h)) ∙ ap (λ n. in_ranges (take n ranges) b || test b) (sym (add-one i))))
  where
    moved : (x y z : Bool) → (x || (y || z)) ≡ ((y || x) || z)
    moved true true z = refl
    moved true false z = refl
    moved false true z = refl
    moved false false z = refl

-- words that make one set have the same bits, so each word of one is that of the other
same_word : (v w : List ℕ) (k : ℕ) → k < 4 → get_or v k 0 < 2 ^ 64 → get_or w k 0 < 2 ^ 64 → bytes_where (has_bit v) ≡ bytes_where (has_bit w) → get_or v k 0 ≡ get_or w k 0
same_word v w k within fits_v fits_w e = same_from_bits_below 64 (get_or v k 0) (get_or w k 0) fits_v fits_w (λ i lt. same_bit i lt)
  where
    one_bit : (m n : ℕ) → m < 2 → n < 2 → nat_eq m 1 ≡ nat_eq n 1 → m ≡ n
    one_bit m n below_m below_n same = grind (arith, nat_tests)

    same_bit : (i : ℕ) → i < 64 → bit_at (get_or v k 0) i ≡ bit_at (get_or w k 0) i
    same_bit i lt =
        let word : (k * 64 + i) / 64 ≡ k = omega arith in
        let place : (k * 64 + i) % 64 ≡ i = omega arith in
        let at : has_bit v (k * 64 + i) ≡ has_bit w (k * 64 + i) = agree (has_bit v) (has_bit w) e (k * 64 + i) (omega arith) in
        one_bit (bit_at (get_or v k 0) i) (bit_at (get_or w k 0) i) (bit_at-lt (get_or v k 0) i) (bit_at-lt (get_or w k 0) i) (rw (word, place) at at)

-- four words are equal exactly if they make one set
pub words_decide : (v w : List ℕ) → length v ≡ 4 → length w ≡ 4 → ((k : ℕ) → k < 4 → get_or v k 0 < 2 ^ 64) → ((k : ℕ) → k < 4 → get_or w k 0 < 2 ^ 64) →
    Decides (pointwise nat_eq v w) (bytes_where (has_bit v) ≡ bytes_where (has_bit w))
words_decide v w four_v four_w fits_v fits_w = (λ e. ap (λ words. bytes_where (has_bit words)) ((bytes_decides v w).0 e), λ e. (bytes_decides v w).1 (same e))
  where
    same : bytes_where (has_bit v) ≡ bytes_where (has_bit w) → v ≡ w
    same e =
        let at : (k : ℕ) → k < 4 → get_or v k 0 ≡ get_or w k 0 = λ k lt. same_word v w k lt (fits_v k lt) (fits_w k lt) e in
        four_words v four_v ∙ ((λ i. at 0 (omega arith) i ∷ at 1 (omega arith) i ∷ at 2 (omega arith) i ∷ at 3 (omega arith) i ∷ []) ∙ sym (four_words w four_w))
