-- The ranges of the bytes by their values, from one byte on.
use Rattle.std.proofs.Common.{ℕ, ◌≡◌, ◌<◌, ◌+◌, ◌-◌, Bool, true, false, List, [], ◌∷◌, ◌++◌, length, drop, get_or, map, Option, Some, None, refl, sym, ◌∙◌, ap, arith, add-one, drop-cons, eq-eqb}
use Rattle.std.proofs.lemmas.Bool.{eqb-true, eqb-false, ne_eqb}
use Rattle.std.proofs.lemmas.List.{get_or-map, length-map, drop_all}
use Rattle.std.specs.Prelude.{if◌then◌else◌, ◌==◌}
use Rattle.std.proofs.lemmas.List.FromFn.{length-range_with_len, get_or-range_with_len}
use Rattle.lx_automaton.specs.EncodedOptions.{decoded_option}
use Rattle.lx_tables.specs.Texts.{range_text, ranges_from, ranges_text, byte_ranges, all_bytes, same_value}

-- the next byte continues the run, or begins another
pub next_byte : (row : List (Option ℕ)) (low at : ℕ) (value : Option ℕ) → 0 < at → at < length row →
    ranges_from low (at - 1) value (drop at row) ≡
    (if same_value value (get_or row at None) then ranges_from low at value (drop (at + 1) row)
    else range_text low (at - 1) value ++ ranges_from at at (get_or row at None) (drop (at + 1) row))
next_byte row low at value some within =
    let e : drop at row ≡ get_or row at None ∷ drop (at + 1) row = rw add-one (drop-cons row at None within) in
    let back : at - 1 + 1 ≡ at = omega arith in
    ap (λ (xs : List (Option ℕ)). ranges_from low (at - 1) value xs) e
    ∙ ap (λ (k : ℕ). if same_value value (get_or row at None) then ranges_from low k value (drop (at + 1) row)
    else range_text low (at - 1) value ++ ranges_from k k (get_or row at None) (drop (at + 1) row)) back

same_encoded_option : (n : ℕ) → same_value (decoded_option n) (decoded_option n) ≡ true
same_encoded_option n = at (n == 0)
  where
    at : (c : Bool) → same_value (if c then None else Some (n - 1)) (if c then None else Some (n - 1)) ≡ true
    at true = refl
    at false = eq-eqb (n - 1) (n - 1) refl

other_encoded_option : (m n : ℕ) → (m ≡ n → ⊥) → same_value (decoded_option m) (decoded_option n) ≡ false
other_encoded_option m n differ = at (m == 0) (n == 0) refl refl
  where
    at : (c d : Bool) → m == 0 ≡ c → n == 0 ≡ d → same_value (if c then None else Some (m - 1)) (if d then None else Some (n - 1)) ≡ false
    at true true e f = absurd (differ (eqb-true m 0 e ∙ sym (eqb-true n 0 f)))
    at true false e f = refl
    at false true e f = refl
    at false false e f = ne_eqb (m - 1) (n - 1) (λ same. let p = eqb-false m 0 e in let q = eqb-false n 0 f in differ (omega arith))

pub byte_count : length all_bytes ≡ 256
unfolding all_bytes
byte_count = length-range_with_len 0 256

pub byte_at : (k : ℕ) → k < 256 → get_or all_bytes k 0 ≡ k
unfolding all_bytes
byte_at k l = omega (arith, get_or-range_with_len 0 256 k 0 l)

module _ (value : ℕ → Option ℕ) where
  abbrev V : List (Option ℕ)
  V = map value all_bytes

  value_count : length V ≡ 256
  value_count = length-map all_bytes value ∙ byte_count

  value_at : (k : ℕ) → k < 256 → get_or V k None ≡ value k
  value_at k l = get_or-map value all_bytes k 0 None (omega (arith, byte_count)) ∙ ap value (byte_at k l)

  first_value : (xs : List (Option ℕ)) (v : Option ℕ) → 0 < length xs → get_or xs 0 None ≡ v → ranges_text xs ≡ ranges_from 0 0 v (drop 1 xs)
  first_value [] v l e = absurd (omega arith)
  first_value (x ∷ xs) v l e = ap (λ w. ranges_from 0 0 w xs) e

  pub run_begins : (encoded_option : ℕ) → decoded_option encoded_option ≡ value 0 → byte_ranges value ≡ ranges_from 0 (1 - 1) (decoded_option encoded_option) (drop 1 V)
  run_begins encoded_option e = first_value V (decoded_option encoded_option) (omega (arith, value_count)) (value_at 0 (omega arith) ∙ sym e)

  pub run_ends : (low at encoded_option next : ℕ) → 0 < at → at < 256 → decoded_option next ≡ value at → (next ≡ encoded_option → ⊥) →
      ranges_from low (at - 1) (decoded_option encoded_option) (drop at V) ≡ range_text low (at - 1) (decoded_option encoded_option) ++ ranges_from at (at + 1 - 1) (decoded_option next) (drop (at + 1) V)
  run_ends low at encoded_option next some l e differ =
      let rest = drop (at + 1) V in
      let there : get_or V at None ≡ decoded_option next = value_at at l ∙ sym e in
      let back : at ≡ at + 1 - 1 = omega arith in
      next_byte V low at (decoded_option encoded_option) some (omega (arith, value_count))
      ∙ ap (λ (v : Option ℕ). if same_value (decoded_option encoded_option) v then ranges_from low at (decoded_option encoded_option) rest else range_text low (at - 1) (decoded_option encoded_option) ++ ranges_from at at v rest) there
      ∙ ap (λ (c : Bool). if c then ranges_from low at (decoded_option encoded_option) rest else range_text low (at - 1) (decoded_option encoded_option) ++ ranges_from at at (decoded_option next) rest) (other_encoded_option encoded_option next (λ same. differ (sym same)))
      ∙ ap (λ (n : ℕ). range_text low (at - 1) (decoded_option encoded_option) ++ ranges_from at n (decoded_option next) rest) back

  pub run_goes : (low at encoded_option next : ℕ) → 0 < at → at < 256 → decoded_option next ≡ value at → next ≡ encoded_option →
      ranges_from low (at - 1) (decoded_option encoded_option) (drop at V) ≡ ranges_from low (at + 1 - 1) (decoded_option encoded_option) (drop (at + 1) V)
  run_goes low at encoded_option next some l e same =
      let rest = drop (at + 1) V in
      let there : get_or V at None ≡ decoded_option encoded_option = value_at at l ∙ sym e ∙ ap (λ (n : ℕ). decoded_option n) same in
      let back : at ≡ at + 1 - 1 = omega arith in
      next_byte V low at (decoded_option encoded_option) some (omega (arith, value_count))
      ∙ ap (λ (v : Option ℕ). if same_value (decoded_option encoded_option) v then ranges_from low at (decoded_option encoded_option) rest else range_text low (at - 1) (decoded_option encoded_option) ++ ranges_from at at v rest) there
      ∙ ap (λ (c : Bool). if c then ranges_from low at (decoded_option encoded_option) rest else range_text low (at - 1) (decoded_option encoded_option) ++ ranges_from at at (decoded_option encoded_option) rest) (same_encoded_option encoded_option)
      ∙ ap (λ (n : ℕ). ranges_from low n (decoded_option encoded_option) rest) back

  -- after the last byte one run is left
  pub run_last : (low at encoded_option : ℕ) → at ≡ 256 → ranges_from low (at - 1) (decoded_option encoded_option) (drop at V) ≡ range_text low 255 (decoded_option encoded_option)
  run_last low at encoded_option e =
      let none : drop at V ≡ [] = drop_all at V (omega (arith, value_count)) in
      ap (λ (xs : List (Option ℕ)). ranges_from low (at - 1) (decoded_option encoded_option) xs) none
      ∙ ap (λ (n : ℕ). range_text low (n - 1) (decoded_option encoded_option)) e
