-- A string of a line is read as its bytes, and passed over as one.
use Rattle.std.proofs.Common.{◌≡◌, ℕ, ◌/◌, ◌%◌, ◌<◌, ◌≤◌, Bool, true, false, cond, ◌==◌, List, [], ◌∷◌, ◌++◌, Option, Some, None, inl, inr, ◌⊎◌, refl, sym, ap, ◌∙◌, subst, arith, append_assoc}
use Rattle.std.specs.List.{flat_map}
use Rattle.std.specs.Option.{option_map_or}
use Rattle.std.proofs.lemmas.Bool.{agree_below_at, cases_eq, cases_lt, eqb-true, ne_eqb, le-ltb, lt-ltb}
use Rattle.std.proofs.lemmas.Str.{encode_ascii}
use Rattle.json.specs.Text.{content, plain, prepend, code_unit, short_escape, is_high_surrogate, is_low_surrogate}
use Rattle.json.specs.Word.{is_operator, is_space}
use Rattle.json.specs.Lex.{Class, Lexeme, Mode, between, class, in_string, lex, lex_byte, operator, other, quote, backslash, space}
use Rattle.lx_forms.specs.JsonLines.{hex_pair, small_digit, string_escaped}

-- the results of a reader and a lexer for a byte
record Passes (x : ℕ) : Type 0 where
  read : (r : List ℕ) → content plain (string_escaped x ++ r) ≡ prepend (x ∷ []) (content plain r)
  lexed : (r : List ℕ) → lex in_string (string_escaped x ++ r) ≡ lex in_string r

-- ---- a byte below 32

found : (o : Option ℕ) (x : ℕ) → option_map_or (λ u. u == x) o false ≡ true → o ≡ Some x
found None x h = (cc)
found (Some u) x h = ap Some (eqb-true u x h)

abbrev unit_of : ℕ → Option ℕ
unit_of x = code_unit 48 48 (small_digit (x / 16)) (small_digit (x % 16))

unit_is : (x : ℕ) → x < 32 → unit_of x ≡ Some x
unfolding code_unit
unit_is x l = found (unit_of x) x (agree_below_at (λ y. option_map_or (λ u. u == y) (unit_of y) false) (λ _. true) 32 x refl l)

-- a class that leaves a string open
abbrev stays : Class → Bool
stays quote = false
stays backslash = false
stays operator = true
stays space = true
stays other = true

stays_inside : (c : Class) (x : ℕ) (r : List ℕ) (k : Mode → List Lexeme) → stays c ≡ true → lex_byte in_string c x r k ≡ k in_string
stays_inside quote x r k h = (cc)
stays_inside backslash x r k h = (cc)
stays_inside operator x r k h = refl
stays_inside space x r k h = refl
stays_inside other x r k h = refl

lex_inside : (x : ℕ) (r : List ℕ) → stays (class x) ≡ true → lex in_string (x ∷ r) ≡ lex in_string r
unfolding lex
lex_inside x r h = stays_inside (class x) x r (λ m. lex m r) h

high_stays : (x : ℕ) → x < 32 → stays (class (small_digit (x / 16))) ≡ true
high_stays x l = agree_below_at (λ y. stays (class (small_digit (y / 16)))) (λ _. true) 32 x refl l

low_stays : (x : ℕ) → x < 32 → stays (class (small_digit (x % 16))) ≡ true
low_stays x l = agree_below_at (λ y. stays (class (small_digit (y % 16)))) (λ _. true) 32 x refl l

control_is : (x : ℕ) → x < 32 → string_escaped x ≡ 92 ∷ 117 ∷ 48 ∷ 48 ∷ hex_pair x
control_is x l = rw (ne_eqb x 34 (λ e. omega arith), ne_eqb x 92 (λ e. omega arith), lt-ltb x 32 l) refl

not_high : (x : ℕ) → x < 32 → is_high_surrogate x ≡ false
not_high x l = agree_below_at is_high_surrogate (λ _. false) 32 x refl l

not_low : (x : ℕ) → x < 32 → is_low_surrogate x ≡ false
not_low x l = agree_below_at is_low_surrogate (λ _. false) 32 x refl l

control_read : (x : ℕ) → x < 32 → (r : List ℕ) → content plain (92 ∷ 117 ∷ 48 ∷ 48 ∷ small_digit (x / 16) ∷ small_digit (x % 16) ∷ r) ≡ prepend (x ∷ []) (content plain r)
unfolding content
control_read x l r = rw (unit_is x l, not_high x l, not_low x l, encode_ascii x (omega arith)) refl

control_lexed : (x : ℕ) → x < 32 → (r : List ℕ) → lex in_string (92 ∷ 117 ∷ 48 ∷ 48 ∷ small_digit (x / 16) ∷ small_digit (x % 16) ∷ r) ≡ lex in_string r
unfolding lex
control_lexed x l r =
    lex_inside (small_digit (x / 16)) (small_digit (x % 16) ∷ r) (high_stays x l)
    ∙ lex_inside (small_digit (x % 16)) r (low_stays x l)

control_passes : (x : ℕ) → x < 32 → Passes x
control_passes x l =
    record {
      read = λ r. ap (λ (bytes : List ℕ). content plain (bytes ++ r)) (control_is x l) ∙ control_read x l r;
      lexed = λ r. ap (λ (bytes : List ℕ). lex in_string (bytes ++ r)) (control_is x l) ∙ control_lexed x l r;
    }

-- ---- the others

quote_passes : Passes 34
unfolding content lex short_escape
quote_passes = record { read = λ r. refl; lexed = λ r. refl }

backslash_passes : Passes 92
unfolding content lex short_escape
backslash_passes = record { read = λ r. refl; lexed = λ r. refl }

pub plain_is : (x : ℕ) → (x ≡ 34 → ⊥) → (x ≡ 92 → ⊥) → 32 ≤ x → string_escaped x ≡ x ∷ []
plain_is x q b l = rw (ne_eqb x 34 q, ne_eqb x 92 b, le-ltb x 32 l) refl

plain_class : (x : ℕ) (o s : Bool) → stays (cond o operator (cond s space other)) ≡ true
plain_class x true s = refl
plain_class x false true = refl
plain_class x false false = refl

plain_stays : (x : ℕ) → (x ≡ 34 → ⊥) → (x ≡ 92 → ⊥) → stays (class x) ≡ true
plain_stays x q b = rw (ne_eqb x 34 q, ne_eqb x 92 b) (plain_class x (is_operator x) (is_space x))

plain_read : (x : ℕ) → (x ≡ 34 → ⊥) → (x ≡ 92 → ⊥) → 32 ≤ x → (r : List ℕ) → content plain (x ∷ r) ≡ prepend (x ∷ []) (content plain r)
unfolding content
plain_read x q b l r = rw (ne_eqb x 34 q, ne_eqb x 92 b, le-ltb x 32 l) refl

plain_passes : (x : ℕ) → (x ≡ 34 → ⊥) → (x ≡ 92 → ⊥) → 32 ≤ x → Passes x
plain_passes x q b l =
    record {
      read = λ r. ap (λ (bytes : List ℕ). content plain (bytes ++ r)) (plain_is x q b l) ∙ plain_read x q b l r;
      lexed = λ r. ap (λ (bytes : List ℕ). lex in_string (bytes ++ r)) (plain_is x q b l) ∙ lex_inside x r (plain_stays x q b);
    }

passes : (x : ℕ) → Passes x
passes x = go (cases_eq x 34) (cases_eq x 92) (cases_lt x 32)
  where
    go : (x ≡ 34) ⊎ (x ≡ 34 → ⊥) → (x ≡ 92) ⊎ (x ≡ 92 → ⊥) → (x < 32) ⊎ (32 ≤ x) → Passes x
    go (inl e) b c = subst Passes (sym e) quote_passes
    go (inr q) (inl e) c = subst Passes (sym e) backslash_passes
    go (inr q) (inr b) (inl c) = control_passes x c
    go (inr q) (inr b) (inr l) = plain_passes x q b l

pub content_is : (bytes r : List ℕ) → content plain (flat_map string_escaped bytes ++ 34 ∷ r) ≡ Some bytes
unfolding content
content_is [] r = refl
content_is (x ∷ bytes) r =
    ap (content plain) (append_assoc (string_escaped x) (flat_map string_escaped bytes) (34 ∷ r)) ∙ (passes x).read _ ∙ ap (prepend (x ∷ [])) (content_is bytes r)

pub lexed_over : (bytes r : List ℕ) → lex in_string (flat_map string_escaped bytes ++ 34 ∷ r) ≡ lex between r
unfolding lex
lexed_over [] r = refl
lexed_over (x ∷ bytes) r =
    ap (lex in_string) (append_assoc (string_escaped x) (flat_map string_escaped bytes) (34 ∷ r)) ∙ (passes x).lexed _ ∙ lexed_over bytes r
