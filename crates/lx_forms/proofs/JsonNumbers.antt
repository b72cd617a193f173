-- A number before a comma or a closing brace is read as one.
use Rattle.std.proofs.Common.{◌≡◌, ℕ, zero, suc, ◌+◌, ◌-◌, ◌^◌, ◌<◌, ◌≤◌, Bool, true, false, cond, List, [], ◌∷◌, ◌++◌, Some, get_or, length, take, drop, refl, sym, ap, ◌∙◌, subst, arith, decimal, length-append}
use Rattle.std.specs.Char.{is_ascii_digit}
use Rattle.std.specs.List.{prefix_len}
use Rattle.std.specs.Option.{option_and_then}
use Rattle.std.proofs.lemmas.Bool.{and_from, le-leb, ne_eqb}
use Rattle.std.proofs.lemmas.Fmt.{decimal_digit, decimal_is_IsNumeral, first_decimal}
use Rattle.std.proofs.lemmas.Str.Parse.{digit_at}
use Rattle.json.specs.Token.{bad, boolean, number}
use Rattle.json.specs.Word.{after_exponent, after_fraction, after_minus, after_number, after_whole, ends_word, number_before, word}
use Rattle.json.specs.Lex.{Class, between, class, in_word, lex, lex_byte, other, token}

-- the byte after a value: a comma, or a closing brace
abbrev pub mark : Bool → ℕ
mark false = 44
mark true = 125

-- decimal digits
abbrev Digits : List ℕ → Type 0
Digits [] = Unit {0}
Digits (d ∷ ds) = (48 ≤ d) × (d ≤ 57) × Digits ds

digits_by : (ds : List ℕ) → ((i : ℕ) → i < length ds → (48 ≤ get_or ds i 0) × (get_or ds i 0 ≤ 57)) → Digits ds
digits_by [] h = tt
digits_by (d ∷ ds) h =
    let first = h 0 (omega arith) in
    (first.0, first.1, digits_by ds (λ i l. h (suc i) (omega arith)))

digit_class : (x : ℕ) → 48 ≤ x → x ≤ 57 → class x ≡ other
digit_class x low high =
    rw (
      ne_eqb x 34 (λ e. omega arith),
      ne_eqb x 92 (λ e. omega arith),
      ne_eqb x 123 (λ e. omega arith),
      ne_eqb x 125 (λ e. omega arith),
      ne_eqb x 91 (λ e. omega arith),
      ne_eqb x 93 (λ e. omega arith),
      ne_eqb x 58 (λ e. omega arith),
      ne_eqb x 44 (λ e. omega arith),
      ne_eqb x 32 (λ e. omega arith),
      ne_eqb x 9 (λ e. omega arith),
      ne_eqb x 10 (λ e. omega arith),
      ne_eqb x 13 (λ e. omega arith),
    ) refl

word_passed : (ds rest : List ℕ) → Digits ds → lex in_word (ds ++ rest) ≡ lex in_word rest
unfolding lex
word_passed [] rest h = refl
word_passed (d ∷ ds) rest h =
    ap (λ (c : Class). lex_byte in_word c d (ds ++ rest) (λ m. lex m (ds ++ rest))) (digit_class d h.0 h.1) ∙ word_passed ds rest h.2

word_ended : (b : Bool) (r : List ℕ) → lex in_word (mark b ∷ r) ≡ lex between (mark b ∷ r)
unfolding lex
word_ended false r = refl
word_ended true r = refl

-- ---- the word

count_digits : (ds : List ℕ) (b : Bool) (r : List ℕ) → Digits ds → prefix_len is_ascii_digit (ds ++ mark b ∷ r) ≡ length ds
count_digits [] false r h = refl
count_digits [] true r h = refl
count_digits (d ∷ ds) b r h =
    ap (λ t. cond t (1 + prefix_len is_ascii_digit (ds ++ mark b ∷ r)) 0) (and_from _ _ (le-leb 48 d h.0) (le-leb d 57 h.1))
    ∙ (let rest = count_digits ds b r h.2 in omega arith)

drop_front : (ds rest : List ℕ) → drop (length ds) (ds ++ rest) ≡ rest
drop_front [] rest = refl
drop_front (d ∷ ds) rest = drop_front ds rest

take_front : (ds rest : List ℕ) → take (length ds) (ds ++ rest) ≡ ds
take_front [] rest = refl
take_front (d ∷ ds) rest = ap (λ l. d ∷ l) (take_front ds rest)

no_more : (b : Bool) (r : List ℕ) → option_and_then after_exponent (after_fraction (mark b ∷ r)) ≡ Some (mark b ∷ r)
no_more false r = refl
no_more true r = refl

ends : (b : Bool) (r : List ℕ) → ends_word (mark b ∷ r) ≡ true
ends false r = refl
ends true r = refl

whole_is : (d : ℕ) (ds : List ℕ) (b : Bool) (r : List ℕ) → Digits (d ∷ ds) → 48 < d → after_whole (after_minus (d ∷ ds ++ mark b ∷ r)) ≡ Some (mark b ∷ r)
whole_is d ds b r h first =
    let all = count_digits (d ∷ ds) b r h in
    rw (ne_eqb d 45 (λ e. omega arith), ne_eqb d 48 (λ e. omega arith), all, ne_eqb (suc (length ds)) 0 (λ e. omega arith)) (ap Some (drop_front ds (mark b ∷ r)))

number_is : (d : ℕ) (ds : List ℕ) (b : Bool) (r : List ℕ) → 48 ≤ d → d ≤ 57 → after_whole (after_minus (d ∷ ds ++ mark b ∷ r)) ≡ Some (mark b ∷ r) → word (d ∷ ds ++ mark b ∷ r) ≡ number (d ∷ ds)
unfolding word after_number
number_is d ds b r low high whole =
    let t = d ∷ ds ++ mark b ∷ r in
    let rest = mark b ∷ r in
    let behind : after_number t ≡ Some rest = ap (λ o. option_and_then after_exponent (option_and_then after_fraction o)) whole ∙ no_more b r in
    let size : length t - length rest ≡ length (d ∷ ds) = omega (arith, length-append (d ∷ ds) rest) in
    rw (ne_eqb d 116 (λ e. omega arith), ne_eqb d 102 (λ e. omega arith), ne_eqb d 110 (λ e. omega arith))
    (ap (λ o. number_before t o) behind
    ∙ ap (λ e. cond e (number (take (length t - length rest) t)) bad) (ends b r)
    ∙ ap (λ n. number (take n t)) size
    ∙ ap number (take_front (d ∷ ds) rest))

number_lexed : (d : ℕ) (ds : List ℕ) (b : Bool) (r : List ℕ) → Digits (d ∷ ds) → after_whole (after_minus (d ∷ ds ++ mark b ∷ r)) ≡ Some (mark b ∷ r) → lex between (d ∷ ds ++ mark b ∷ r) ≡ token (number (d ∷ ds)) ∷ lex between (mark b ∷ r)
unfolding lex
number_lexed d ds b r h whole =
    let rest = ds ++ mark b ∷ r in
    ap (λ (c : Class). lex_byte between c d rest (λ m. lex m rest)) (digit_class d h.0 h.1)
    ∙ ap (λ t. token t ∷ lex in_word rest) (number_is d ds b r h.0 h.1 whole)
    ∙ ap (λ ls. token (number (d ∷ ds)) ∷ ls) (word_passed ds (mark b ∷ r) h.2 ∙ word_ended b r)

zero_whole : (b : Bool) (r : List ℕ) → after_whole (after_minus (48 ∷ mark b ∷ r)) ≡ Some (mark b ∷ r)
zero_whole b r = refl

some_lexed : (ds : List ℕ) (b : Bool) (r : List ℕ) → Digits ds → 48 < get_or ds 0 0 → lex between (ds ++ mark b ∷ r) ≡ token (number ds) ∷ lex between (mark b ∷ r)
some_lexed [] b r h first = absurd (omega arith)
some_lexed (d ∷ ds) b r h first = number_lexed d ds b r h (whole_is d ds b r h first)

pub decimal_lexed : (n : ℕ) (b : Bool) (r : List ℕ) → n < 2 ^ 64 → lex between (decimal n ++ mark b ∷ r) ≡ token (number (decimal n)) ∷ lex between (mark b ∷ r)
decimal_lexed zero b r small =
    subst (λ (ds : List ℕ). lex between (ds ++ mark b ∷ r) ≡ token (number ds) ∷ lex between (mark b ∷ r)) (sym (decimal_digit 0 (omega arith)))
    (number_lexed 48 [] b r (omega arith, omega arith, tt) (zero_whole b r))
decimal_lexed (suc n) b r small =
    some_lexed (decimal (suc n)) b r (digits_by (decimal (suc n)) (λ i l. digit_at _ i (decimal_is_IsNumeral (suc n) small).0.1 l)) (first_decimal (suc n) (omega arith) small)

pub truth_lexed : (b : Bool) (r : List ℕ) → lex between (116 ∷ 114 ∷ 117 ∷ 101 ∷ mark b ∷ r) ≡ token (boolean true) ∷ lex between (mark b ∷ r)
unfolding lex word
truth_lexed false r = refl
truth_lexed true r = refl
