-- The last three digits of numbers by the table of triples.
use Rattle.std.proofs.Common.{◌≡◌, ℕ, zero, suc, ◌+◌, ◌-◌, ◌*◌, ◌/◌, ◌%◌, ◌^◌, ◌<◌, ◌≤◌, Bool, true, false, ◌&&◌, T, eqb, List, [], ◌∷◌, ◌++◌, take, drop, refl, sym, ap, ◌∙◌, arith, eqb→eq, append_assoc}
use Rattle.std.proofs.lemmas.Fmt.{decimal_digit, decimal_step}
use Rattle.std.proofs.lemmas.List.{drop-drop}
use Rattle.std.specs.Fmt.{decimal}
use lib.Ieee.Fits.{and_l, and_r}
use Rattle.lx_line.specs.Decimals.{leading, triple}
use Rattle.lx_line.specs.declared.shared.TheConstants.{TRIPLES}
use Rattle.lx_line.proofs.ShortNumbers.{leading_some}

-- the entries of n numbers, from this one on
abbrev are_triples : ℕ → ℕ → List ℕ → Bool
are_triples zero p xs = true
are_triples (suc n) p [] = false
are_triples (suc n) p (a ∷ []) = false
are_triples (suc n) p (a ∷ b ∷ []) = false
are_triples (suc n) p (a ∷ b ∷ c ∷ []) = false
are_triples (suc n) p (a ∷ b ∷ c ∷ d ∷ xs) = ((eqb a (48 + p / 100) && eqb b (48 + p / 10 % 10)) && (eqb c (48 + p % 10) && eqb d 32)) && are_triples n (p + 1) xs

unfoldable has_triples : Bool
has_triples = are_triples 1000 0 TRIPLES

four_bytes : (a b c d p : ℕ) → T ((eqb a (48 + p / 100) && eqb b (48 + p / 10 % 10)) && (eqb c (48 + p % 10) && eqb d 32)) → a ∷ b ∷ c ∷ d ∷ [] ≡ triple p ++ 32 ∷ []
four_bytes a b c d p t =
    let front = and_l (eqb a (48 + p / 100) && eqb b (48 + p / 10 % 10)) _ t in
    let back = and_r (eqb a (48 + p / 100) && eqb b (48 + p / 10 % 10)) _ t in
    ap (λ (x : ℕ). x ∷ b ∷ c ∷ d ∷ []) (eqb→eq _ _ (and_l _ _ front))
    ∙ ap (λ (x : ℕ). (48 + p / 100) ∷ x ∷ c ∷ d ∷ []) (eqb→eq _ _ (and_r _ _ front))
    ∙ ap (λ (x : ℕ). (48 + p / 100) ∷ (48 + p / 10 % 10) ∷ x ∷ d ∷ []) (eqb→eq _ _ (and_l _ _ back))
    ∙ ap (λ (x : ℕ). (48 + p / 100) ∷ (48 + p / 10 % 10) ∷ (48 + p % 10) ∷ x ∷ []) (eqb→eq _ _ (and_r _ _ back))

entry_at : (n p k : ℕ) (xs : List ℕ) → T (are_triples n k xs) → p < n → take 4 (drop (p * 4) xs) ≡ triple (k + p) ++ 32 ∷ []
entry_at zero p k xs t h = absurd (omega arith)
entry_at (suc n) p k [] t h = absurd t
entry_at (suc n) p k (a ∷ []) t h = absurd t
entry_at (suc n) p k (a ∷ b ∷ []) t h = absurd t
entry_at (suc n) p k (a ∷ b ∷ c ∷ []) t h = absurd t
entry_at (suc n) zero k (a ∷ b ∷ c ∷ d ∷ xs) t h =
    let same : k ≡ k + 0 = omega arith in
    four_bytes a b c d k (and_l _ (are_triples n (k + 1) xs) t) ∙ ap (λ (m : ℕ). triple m ++ 32 ∷ []) same
entry_at (suc n) (suc p) k (a ∷ b ∷ c ∷ d ∷ xs) t h =
    let place : suc p * 4 ≡ suc (suc (suc (suc (p * 4)))) = omega arith in
    let same : k + 1 + p ≡ k + suc p = omega arith in
    ap (λ (m : ℕ). take 4 (drop m (a ∷ b ∷ c ∷ d ∷ xs))) place
    ∙ entry_at n p (k + 1) xs (and_r ((eqb a (48 + k / 100) && eqb b (48 + k / 10 % 10)) && (eqb c (48 + k % 10) && eqb d 32)) _ t) (omega arith)
    ∙ ap (λ (m : ℕ). triple m ++ 32 ∷ []) same

-- the three digits of a number and a space, without the first of them, and without the first two
triple_at : (p : ℕ) → p < 1000 → take 4 (drop (p * 4) TRIPLES) ≡ triple p ++ 32 ∷ []
unfolding has_triples
triple_at p h =
    let all : T has_triples = tt in
    let same : 0 + p ≡ p = omega arith in
    entry_at 1000 p 0 TRIPLES all h ∙ ap (λ (m : ℕ). triple m ++ 32 ∷ []) same

take_tail : (n : ℕ) (xs : List ℕ) → take n (drop 1 xs) ≡ drop 1 (take (suc n) xs)
take_tail zero [] = refl
take_tail (suc n) [] = refl
take_tail n (x ∷ xs) = refl

three_at : (p : ℕ) → p < 1000 → take 3 (drop (p * 4 + 1) TRIPLES) ≡ (48 + p / 10 % 10) ∷ (48 + p % 10) ∷ 32 ∷ []
three_at p h = ap (take 3) (sym (drop-drop 1 (p * 4) TRIPLES)) ∙ take_tail 3 (drop (p * 4) TRIPLES) ∙ ap (drop 1) (triple_at p h)

two_at : (p : ℕ) → p < 1000 → take 2 (drop (p * 4 + 2) TRIPLES) ≡ (48 + p % 10) ∷ 32 ∷ []
two_at p h =
    let place : p * 4 + 2 ≡ p * 4 + 1 + 1 = omega arith in
    ap (λ (m : ℕ). take 2 (drop m TRIPLES)) place ∙ ap (take 2) (sym (drop-drop 1 (p * 4 + 1) TRIPLES)) ∙ take_tail 2 (drop (p * 4 + 1) TRIPLES) ∙ ap (drop 1) (three_at p h)

-- the digits of numbers with two and three of them, and the last three of a longer one
decimal_two : (n : ℕ) → 10 ≤ n → n < 100 → decimal n ≡ (48 + n / 10 % 10) ∷ (48 + n % 10) ∷ []
decimal_two n lo hi =
    let same : n / 10 ≡ n / 10 % 10 = omega arith in
    decimal_step n lo (omega arith) ∙ ap (λ (ds : List ℕ). ds ++ (48 + n % 10) ∷ []) (decimal_digit (n / 10) (omega arith)) ∙ ap (λ (k : ℕ). (48 + k) ∷ (48 + n % 10) ∷ []) same

decimal_three : (n : ℕ) → 100 ≤ n → n < 1000 → decimal n ≡ triple n
decimal_three n lo hi =
    let high : n / 10 / 10 % 10 ≡ n / 100 = omega arith in
    decimal_step n (omega arith) (omega arith) ∙ ap (λ (ds : List ℕ). ds ++ (48 + n % 10) ∷ []) (decimal_two (n / 10) (omega arith) (omega arith)) ∙ ap (λ (k : ℕ). (48 + k) ∷ (48 + n / 10 % 10) ∷ (48 + n % 10) ∷ []) high

three_behind : (ds : List ℕ) (a b c : ℕ) → ((ds ++ a ∷ []) ++ b ∷ []) ++ c ∷ [] ≡ ds ++ a ∷ b ∷ c ∷ []
three_behind ds a b c = append_assoc (ds ++ a ∷ []) (b ∷ []) (c ∷ []) ∙ append_assoc ds (a ∷ []) (b ∷ c ∷ [])

decimal_triple : (n : ℕ) → 1000 ≤ n → n < 2 ^ 64 → decimal n ≡ decimal (n / 1000) ++ triple (n % 1000)
decimal_triple n lo hi =
    let a : n / 10 / 10 / 10 ≡ n / 1000 = omega arith in
    let b : n / 10 / 10 % 10 ≡ n % 1000 / 100 = omega arith in
    let c : n / 10 % 10 ≡ n % 1000 / 10 % 10 = omega arith in
    let d : n % 10 ≡ n % 1000 % 10 = omega arith in
    decimal_step n (omega arith) hi
    ∙ ap (λ (ds : List ℕ). ds ++ (48 + n % 10) ∷ []) (decimal_step (n / 10) (omega arith) (omega arith))
    ∙ ap (λ (ds : List ℕ). (ds ++ (48 + n / 10 % 10) ∷ []) ++ (48 + n % 10) ∷ []) (decimal_step (n / 10 / 10) (omega arith) (omega arith))
    ∙ three_behind (decimal (n / 10 / 10 / 10)) (48 + n / 10 / 10 % 10) (48 + n / 10 % 10) (48 + n % 10)
    ∙ ap (λ (k : ℕ). decimal k ++ (48 + n / 10 / 10 % 10) ∷ (48 + n / 10 % 10) ∷ (48 + n % 10) ∷ []) a
    ∙ ap (λ (k : ℕ). decimal (n / 1000) ++ (48 + k) ∷ (48 + n / 10 % 10) ∷ (48 + n % 10) ∷ []) b
    ∙ ap (λ (k : ℕ). decimal (n / 1000) ++ (48 + n % 1000 / 100) ∷ (48 + k) ∷ (48 + n % 10) ∷ []) c
    ∙ ap (λ (k : ℕ). decimal (n / 1000) ++ (48 + n % 1000 / 100) ∷ (48 + n % 1000 / 10 % 10) ∷ (48 + k) ∷ []) d

-- the text of a number that has no digit before its last three
short_text : (number last : ℕ) → number < 1000 → 2 ≤ last → last ≤ 4 → (last ≡ 2 → number < 10) → (last ≡ 3 → (10 ≤ number) × (number < 100)) → (last ≡ 4 → 100 ≤ number) → take last (drop (4 * number + (4 - last)) TRIPLES) ≡ decimal number ++ 32 ∷ []
short_text number zero few some most one two three = absurd (omega arith)
short_text number (suc zero) few some most one two three = absurd (omega arith)
short_text number (suc (suc zero)) few some most one two three =
    let small = one refl in
    let place : 4 * number + 2 ≡ number * 4 + 2 = omega arith in
    let same : number % 10 ≡ number = omega (arith, small) in
    ap (λ (k : ℕ). take 2 (drop k TRIPLES)) place
    ∙ two_at number few
    ∙ ap (λ (k : ℕ). (48 + k) ∷ 32 ∷ []) same
    ∙ ap (λ (ds : List ℕ). ds ++ 32 ∷ []) (sym (decimal_digit number small))
short_text number (suc (suc (suc zero))) few some most one two three =
    let place : 4 * number + 1 ≡ number * 4 + 1 = omega arith in
    ap (λ (k : ℕ). take 3 (drop k TRIPLES)) place
    ∙ three_at number few
    ∙ ap (λ (ds : List ℕ). ds ++ 32 ∷ []) (sym (decimal_two number (two refl).0 (two refl).1))
short_text number (suc (suc (suc (suc zero)))) few some most one two three =
    let place : 4 * number + 0 ≡ number * 4 = omega arith in
    ap (λ (k : ℕ). take 4 (drop k TRIPLES)) place
    ∙ triple_at number few
    ∙ ap (λ (ds : List ℕ). ds ++ 32 ∷ []) (sym (decimal_three number (three refl) few))
short_text number (suc (suc (suc (suc (suc n))))) few some most one two three = absurd (omega arith)

-- the text of a number: the shared digits, and the rest of it from the table
pub shared_text : (front : List ℕ) (len first count base before last number : ℕ) → base < 10 ^ 18 → base % 1000 ≡ 0 → base ≤ first → first + count ≤ base + 1000 → take len front ≡ leading (base / 1000) → 2 ≤ last → last ≤ 4 → before + 2 ≡ 4 * base + last → (last ≡ 2 → first + count ≤ 10) → (last ≡ 3 → (10 ≤ first) × (first + count ≤ 100)) → (last ≡ 4 → 100 ≤ first) → first ≤ number → number < first + count →
    take len front ++ take last (drop (4 * number + 2 - before) TRIPLES) ≡ decimal number ++ 32 ∷ []
shared_text front len first count zero before last number small thousands begin end shared some most placed one two three from below =
    let place : 4 * number + 2 - before ≡ 4 * number + (4 - last) = omega arith in
    ap (λ (ds : List ℕ). ds ++ take last (drop (4 * number + 2 - before) TRIPLES)) shared
    ∙ ap (λ (k : ℕ). take last (drop k TRIPLES)) place
    ∙ short_text number last (omega arith) some most
    (λ e. let h = one e in omega (arith, h))
    (λ e. let h = two e in (omega (arith, h.0), omega (arith, h.1)))
    (λ e. let h = three e in omega (arith, h))
shared_text front len first count (suc b) before last number small thousands begin end shared some most placed one two three from below =
    let base = suc b in
    let four : last ≡ 4 = grind (arith, one, two) in
    let low = number % 1000 in
    let place : 4 * number + 2 - before ≡ low * 4 = omega arith in
    let high : base / 1000 ≡ number / 1000 = omega arith in
    ap (λ (ds : List ℕ). ds ++ take last (drop (4 * number + 2 - before) TRIPLES)) (shared ∙ leading_some (base / 1000) (omega arith))
    ∙ ap (λ (k : ℕ). decimal (base / 1000) ++ take k (drop (4 * number + 2 - before) TRIPLES)) four
    ∙ ap (λ (k : ℕ). decimal (base / 1000) ++ take 4 (drop k TRIPLES)) place
    ∙ ap (λ (ds : List ℕ). decimal (base / 1000) ++ ds) (triple_at low (omega arith))
    ∙ ap (λ (k : ℕ). decimal k ++ (triple low ++ 32 ∷ [])) high
    ∙ sym (append_assoc (decimal (number / 1000)) (triple low) (32 ∷ []))
    ∙ ap (λ (ds : List ℕ). ds ++ 32 ∷ []) (sym (decimal_triple number (omega arith) (omega arith)))
