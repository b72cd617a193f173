-- A pattern that has a reading has no blank outside escapes, quotes and brackets.
use Rattle.std.proofs.Common.{◌≡◌, ◌≢◌, ℕ, ◌<◌, ◌≤◌, ◌⊎◌, inl, inr, Bool, true, false, ◌&&◌, ◌||◌, not, nat_eq, cond, List, [], ◌∷◌, ◌++◌, Option, Some, None, length, drop, refl, sym, ap, subst, ◌∙◌, arith, append_assoc}
use Rattle.std.specs.List.{list_all}
use Rattle.std.specs.Ordering.{nat_cmp}
use Rattle.std.specs.FinSet as set
use Rattle.std.proofs.Math.ListN.{drop_of_length-le}
use Rattle.std.proofs.lemmas.Bool.{eqb-false, false≢true, and_parts}
use Rattle.std.proofs.lemmas.Bool.Decides.{nat_tests}
use Rattle.lx_ere.specs.Regex.{Reading}
use Rattle.lx_ere.specs.Grammar.{Lexeme}
use Rattle.lx_ere.specs.Escapes.{is_digit, Escape, letter, octal, hexadecimal, only_x, itself}
use Rattle.lx_ere.specs.Sequences.{Closed, Opened}
use Rattle.lx_ere.specs.Brackets.{BracketPosition, opening, behind_caret, inside, begins_with, Point, plain_point, escaped, first_bracket, outer_dash, collating, RangeEnd, end_point, end_dash, class_ranges, Member, point, range, equivalence, class, Bracket, matching, excluding}
use Rattle.lx_ere.specs.Spelling.{byte_lexeme, QuotedByte, unescaped, escaped_byte, is_name_byte, IsBound, Spells, of_byte, of_escape, of_string, of_bracket, of_name, exactly, at_least, between, Lexes}
use Rattle.lx_ere.specs.Pattern.{IsEnding, nothing, dollar, slash_newline, IsPattern}
use Rattle.lx_ere.specs.PatternGrammar.{BehindQuotes, quote_closes, quote_escape, quote_byte, BehindMark, mark_closes, mark_byte, BehindBrackets, bracket_closes, bracket_escape, bracket_inner, bracket_byte, skip_first, is_blank, BehindPattern, at_end, past_escape, past_quotes, past_brackets, past_byte, IsPatternEnd}
use Rattle.lx_ere.specs.ChoiceLaws.{pick_second}
use Rattle.lx_ere.proofs.EscapeLemmas.{escape_complete}
use Rattle.lx_ere.proofs.BracketLemmas.{alone_is, class_name, opening_no_caret}
use Rattle.lx_ere.proofs.SpellingLemmas.{byte_other, identifier_bytes}

all_imply : (p q : ℕ → Bool) → ((c : ℕ) → p c ≡ true → q c ≡ true) → (xs : List ℕ) → list_all p xs ≡ true → list_all q xs ≡ true
all_imply p q h [] all = refl
all_imply p q h (x ∷ xs) all = let both = and_parts (p x) (list_all p xs) all in rw (h x both.0) (all_imply p q h xs both.1)

octal_hexadecimal : (c : ℕ) → is_digit 8 c ≡ true → is_digit 16 c ≡ true
octal_hexadecimal c h = grind (arith, nat_tests)

-- a relation that skips escapes, and digits
module _ (R : List ℕ → List ℕ → Type 0) (escape : (c : ℕ) (text b : List ℕ) → R text b → R (92 ∷ c ∷ text) b) (digit : (c : ℕ) (text b : List ℕ) → is_digit 16 c ≡ true → R text b → R (c ∷ text) b) where
  digits_passed : (digits rest b : List ℕ) → list_all (is_digit 16) digits ≡ true → R rest b → R (digits ++ rest) b
  digits_passed [] rest b all h = h
  digits_passed (d ∷ digits) rest b all h = let both = and_parts (is_digit 16 d) (list_all (is_digit 16) digits) all in digit d (digits ++ rest) b both.0 (digits_passed digits rest b both.1 h)

  octal_passed : (digits rest b : List ℕ) → 0 < length digits → list_all (is_digit 16) digits ≡ true → R rest b → R (92 ∷ (digits ++ rest)) b
  octal_passed [] rest b some all h = absurd (omega (arith, some))
  octal_passed (d ∷ digits) rest b some all h = let both = and_parts (is_digit 16 d) (list_all (is_digit 16) digits) all in escape d (digits ++ rest) b (digits_passed digits rest b both.1 h)

  escape_passed : (text : List ℕ) (c : ℕ) (rest : List ℕ) → Escape text c rest → (b : List ℕ) → R rest b → R (text ++ rest) b
  escape_passed _ _ _ (letter c byte behind e) b h = escape c behind b h
  escape_passed _ _ _ (octal digits behind some few all ends small) b h = octal_passed digits behind b some (all_imply (is_digit 8) (is_digit 16) octal_hexadecimal digits all) h
  escape_passed _ _ _ (hexadecimal digits behind some all ends small) b h = escape 120 (digits ++ behind) b (digits_passed digits behind b all h)
  escape_passed _ _ _ (only_x behind ends) b h = escape 120 behind b h
  escape_passed _ _ _ (itself c behind no_letter no_octal no_x no_newline) b h = escape c behind b h

-- quotes
quote_digit : (c : ℕ) (text b : List ℕ) → is_digit 16 c ≡ true → BehindQuotes text b → BehindQuotes (c ∷ text) b
quote_digit c text b d h = quote_byte c text b (no_quote c d) (no_slash c d) h
  where
    no_quote : (c : ℕ) → is_digit 16 c ≡ true → c ≢ 34
    no_quote c d = grind (arith, nat_tests)

    no_slash : (c : ℕ) → is_digit 16 c ≡ true → c ≢ 92
    no_slash c d = grind (arith, nat_tests)

quoted_byte_passed : (text : List ℕ) (c : ℕ) (rest : List ℕ) → QuotedByte text c rest → (b : List ℕ) → BehindQuotes rest b → BehindQuotes (text ++ rest) b
quoted_byte_passed _ _ _ (unescaped c behind no_quote no_slash no_newline) b h = quote_byte c behind b no_quote no_slash h
quoted_byte_passed _ _ _ (escaped_byte text c behind d) b h = escape_passed BehindQuotes (λ c t b h. quote_escape c t b h) quote_digit text c behind d b h

quotes_passed : (xs text behind : List ℕ) → Closed QuotedByte 34 text xs behind → BehindQuotes (text ++ behind) behind
quotes_passed [] text behind h = subst (λ t. BehindQuotes (t ++ behind) behind) (sym h) (quote_closes behind)
quotes_passed (x ∷ xs) text behind (prefix, rest, i, j, more) =
    subst (λ t. BehindQuotes t behind) (sym (ap (λ t. t ++ behind) j ∙ append_assoc prefix rest behind)) (quoted_byte_passed prefix x (rest ++ behind) i behind (quotes_passed xs rest behind more))

-- brackets
bracket_digit : (c : ℕ) (text b : List ℕ) → is_digit 16 c ≡ true → BehindBrackets text b → BehindBrackets (c ∷ text) b
bracket_digit c text b d h = bracket_byte c text b (no_close c d) (no_slash c d) (ap (λ x. x && (begins_with 58 text || (begins_with 46 text || begins_with 61 text))) (no_bracket c d)) h
  where
    no_close : (c : ℕ) → is_digit 16 c ≡ true → c ≢ 93
    no_close c d = grind (arith, nat_tests)

    no_slash : (c : ℕ) → is_digit 16 c ≡ true → c ≢ 92
    no_slash c d = grind (arith, nat_tests)

    no_bracket : (c : ℕ) → is_digit 16 c ≡ true → nat_eq c 91 ≡ false
    no_bracket c d = grind (arith, nat_tests)

-- a part of the brackets is skipped: without the `]` at its start, or completely if it has none
record SkipsBracket (text behind : List ℕ) : Type 0 where
  pub rest : List ℕ
  pub is : text ≡ 93 ∷ rest
  pub passes : (b : List ℕ) → BehindBrackets behind b → BehindBrackets (rest ++ behind) b

record Whole (text behind : List ℕ) : Type 0 where
  pub no_close : begins_with 93 (text ++ behind) ≡ false
  pub passes : (b : List ℕ) → BehindBrackets behind b → BehindBrackets (text ++ behind) b

point_passed : (position : BracketPosition) (text : List ℕ) (c : ℕ) (behind : List ℕ) → Point position text c behind → SkipsBracket text behind ⊎ Whole text behind
point_passed _ _ _ _ (plain_point position c behind h) =
    let a = alone_is position c behind h in
    inr (record { no_close = a.no_close; passes = λ b more. bracket_byte c behind b (eqb-false c 93 a.no_close) (eqb-false c 92 a.no_slash) a.no_inner more })
point_passed _ _ _ _ (escaped position text c behind d) =
    let at = escape_complete text c behind d in
    inr (record { no_close = ap (λ t. begins_with 93 (t ++ behind)) at.slash; passes = escape_passed BehindBrackets (λ c t b h. bracket_escape c t b h) bracket_digit text c behind d })
point_passed _ _ _ _ (first_bracket position behind h) = inl (record { rest = []; is = refl; passes = λ b more. more })
point_passed _ _ _ _ (outer_dash position behind h) = inr (record { no_close = refl; passes = λ b more. bracket_byte 45 behind b (λ e. omega (arith, e)) (λ e. omega (arith, e)) refl more })
point_passed _ _ _ _ (collating position c behind h) = inr (record { no_close = refl; passes = λ b more. bracket_inner 46 (c ∷ 46 ∷ 93 ∷ behind) behind b refl (mark_closes 46 behind) more })

inside_passed : (text : List ℕ) (c : ℕ) (behind : List ℕ) → Point inside text c behind → Whole text behind
inside_passed _ _ _ (plain_point _ c behind h) =
    let a = alone_is inside c behind h in
    record { no_close = a.no_close; passes = λ b more. bracket_byte c behind b (eqb-false c 93 a.no_close) (eqb-false c 92 a.no_slash) a.no_inner more }
inside_passed _ _ _ (escaped _ text c behind d) =
    let at = escape_complete text c behind d in
    record { no_close = ap (λ t. begins_with 93 (t ++ behind)) at.slash; passes = escape_passed BehindBrackets (λ c t b h. bracket_escape c t b h) bracket_digit text c behind d }
inside_passed _ _ _ (first_bracket _ behind h) = absurd (false≢true (sym h))
inside_passed _ _ _ (outer_dash _ behind h) = record { no_close = refl; passes = λ b more. bracket_byte 45 behind b (λ e. omega (arith, e)) (λ e. omega (arith, e)) refl more }
inside_passed _ _ _ (collating _ c behind h) = record { no_close = refl; passes = λ b more. bracket_inner 46 (c ∷ 46 ∷ 93 ∷ behind) behind b refl (mark_closes 46 behind) more }

dash_passed : (text b : List ℕ) → BehindBrackets text b → BehindBrackets (45 ∷ text) b
dash_passed text b h = bracket_byte 45 text b (λ e. omega (arith, e)) (λ e. omega (arith, e)) refl h

range_end_passed : (text : List ℕ) (c : ℕ) (behind : List ℕ) → RangeEnd text c behind → (b : List ℕ) → BehindBrackets behind b → BehindBrackets (text ++ behind) b
range_end_passed _ _ _ (end_point text c behind p) b h = let w = inside_passed text c behind p in w.passes b h
range_end_passed _ _ _ (end_dash behind) b h = dash_passed behind b h

name_mark : (n behind : List ℕ) → list_all is_name_byte n ≡ true → BehindMark 58 (n ++ (58 ∷ 93 ∷ behind)) behind
name_mark [] behind all = mark_closes 58 behind
name_mark (c ∷ n) behind all =
    let both = and_parts (is_name_byte c) (list_all is_name_byte n) all in
    mark_byte 58 c (n ++ (58 ∷ 93 ∷ behind)) behind (ap (λ x. x && begins_with 93 (n ++ (58 ∷ 93 ∷ behind))) (no_colon c both.0)) (name_mark n behind both.1)
  where
    no_colon : (c : ℕ) → is_name_byte c ≡ true → nat_eq c 58 ≡ false
    no_colon c h = grind (arith, nat_tests)

class_passed : (name : List ℕ) (ranges : List (ℕ × ℕ)) (behind b : List ℕ) → class_ranges name ≡ Some ranges → BehindBrackets behind b → BehindBrackets (91 ∷ 58 ∷ (name ++ (58 ∷ 93 ∷ behind))) b
class_passed [] ranges behind b known h = absurd (let none : class_ranges [] ≡ None = refl in let e : ◌≡◌ {A = Option (List (ℕ × ℕ))} None (Some ranges) = sym none ∙ known in cc)
class_passed (c ∷ name) ranges behind b known h =
    let both = and_parts (is_name_byte c) (list_all is_name_byte name) (class_name (c ∷ name) ranges known) in
    bracket_inner 58 (c ∷ (name ++ (58 ∷ 93 ∷ behind))) behind b refl (name_mark name behind both.1) h

-- a range after its first point
range_passed : (text text' : List ℕ) (high : ℕ) (behind : List ℕ) → RangeEnd text' high behind → SkipsBracket text (45 ∷ (text' ++ behind)) ⊎ Whole text (45 ∷ (text' ++ behind)) → SkipsBracket (text ++ (45 ∷ text')) behind ⊎ Whole (text ++ (45 ∷ text')) behind
range_passed text text' high behind end (inl a) = inl (record {
  rest = a.rest ++ (45 ∷ text');
  is = ap (λ t. t ++ (45 ∷ text')) a.is;
  passes = λ b h. subst (λ t. BehindBrackets t b) (sym (append_assoc (a.rest) (45 ∷ text') behind)) (a.passes b (dash_passed (text' ++ behind) b (range_end_passed text' high behind end b h)));
})
range_passed text text' high behind end (inr w) = inr (record {
  no_close = ap (begins_with 93) (append_assoc text (45 ∷ text') behind) ∙ w.no_close;
  passes = λ b h. subst (λ t. BehindBrackets t b) (sym (append_assoc text (45 ∷ text') behind)) (w.passes b (dash_passed (text' ++ behind) b (range_end_passed text' high behind end b h)));
})

member_passed : (position : BracketPosition) (text : List ℕ) (ranges : List (ℕ × ℕ)) (behind : List ℕ) → Member position text ranges behind → SkipsBracket text behind ⊎ Whole text behind
member_passed _ _ _ _ (point position text c behind p no_range) = point_passed position text c behind p
member_passed _ _ _ _ (range position text low text' high behind p follows end le) = range_passed text text' high behind end (point_passed position text low (45 ∷ (text' ++ behind)) p)
member_passed _ _ _ _ (equivalence position c behind h) = inr (record { no_close = refl; passes = λ b more. bracket_inner 61 (c ∷ 61 ∷ 93 ∷ behind) behind b refl (mark_closes 61 behind) more })
member_passed _ _ _ _ (class position name ranges behind known) =
    inr (record { no_close = refl; passes = λ b more. subst (λ t. BehindBrackets (91 ∷ 58 ∷ t) b) (sym (append_assoc name (58 ∷ 93 ∷ []) behind)) (class_passed name ranges behind b known more) })

member_whole : (text : List ℕ) (ranges : List (ℕ × ℕ)) (behind : List ℕ) → Member inside text ranges behind → (b : List ℕ) → BehindBrackets behind b → BehindBrackets (text ++ behind) b
member_whole _ _ _ (point _ text c behind p no_range) b h = let w = inside_passed text c behind p in w.passes b h
member_whole _ _ _ (range _ text low text' high behind p follows end le) b h =
    let w = inside_passed text low (45 ∷ (text' ++ behind)) p in
    subst (λ t. BehindBrackets t b) (sym (append_assoc text (45 ∷ text') behind)) (w.passes b (dash_passed (text' ++ behind) b (range_end_passed text' high behind end b h)))
member_whole _ _ _ (equivalence _ c behind e) b h = bracket_inner 61 (c ∷ 61 ∷ 93 ∷ behind) behind b refl (mark_closes 61 behind) h
member_whole _ _ _ (class _ name ranges behind known) b h = subst (λ t. BehindBrackets (91 ∷ 58 ∷ t) b) (sym (append_assoc name (58 ∷ 93 ∷ []) behind)) (class_passed name ranges behind b known h)

members_passed : (ms : List (List (ℕ × ℕ))) (text behind : List ℕ) → Closed (Member inside) 93 text ms behind → BehindBrackets (text ++ behind) behind
members_passed [] text behind h = subst (λ t. BehindBrackets (t ++ behind) behind) (sym h) (bracket_closes behind)
members_passed (m ∷ ms) text behind (prefix, rest, i, j, more) =
    subst (λ t. BehindBrackets t behind) (sym (ap (λ t. t ++ behind) j ∙ append_assoc prefix rest behind)) (member_whole prefix m (rest ++ behind) i behind (members_passed ms rest behind more))

opened_passed : (position : BracketPosition) (text : List ℕ) (m : List (ℕ × ℕ)) (ms : List (List (ℕ × ℕ))) (behind : List ℕ) → Opened (Member position) (Member inside) 93 text m ms behind → BehindBrackets (skip_first 93 (text ++ behind)) behind
opened_passed position text m ms behind (prefix, rest, d, j, more) =
    subst (λ t. BehindBrackets (skip_first 93 t) behind) (sym (ap (λ t. t ++ behind) j ∙ append_assoc prefix rest behind)) (go (member_passed position prefix m (rest ++ behind) d))
  where
    inner : BehindBrackets (rest ++ behind) behind
    inner = members_passed ms rest behind more

    go : SkipsBracket prefix (rest ++ behind) ⊎ Whole prefix (rest ++ behind) → BehindBrackets (skip_first 93 (prefix ++ (rest ++ behind))) behind
    go (inl a) = subst (λ t. BehindBrackets (skip_first 93 (t ++ (rest ++ behind))) behind) (sym a.is) (a.passes behind inner)
    go (inr w) = subst (λ t. BehindBrackets t behind) (sym (pick_second (begins_with 93 (prefix ++ (rest ++ behind))) _ _ w.no_close)) (w.passes behind inner)

bracket_passed : (text : List ℕ) (s : set.FinSet nat_cmp) (rest : List ℕ) → Bracket text s rest → (b : List ℕ) → BehindPattern rest b → BehindPattern (text ++ rest) b
bracket_passed _ _ _ (matching text m ms behind o) b h =
    past_brackets (text ++ behind) behind b (subst (λ t. BehindBrackets (skip_first 93 t) behind) (sym (pick_second (begins_with 94 (text ++ behind)) _ _ (opening_no_caret text m ms behind o))) (opened_passed opening text m ms behind o)) h
bracket_passed _ _ _ (excluding text m ms behind o) b h = past_brackets (94 ∷ (text ++ behind)) behind b (opened_passed behind_caret text m ms behind o) h

-- bytes that a pattern's end passes by themselves
abbrev ordinary : ℕ → Bool
ordinary c = not (is_blank c || (nat_eq c 92 || (nat_eq c 34 || nat_eq c 91)))

ordinary_passed : (c : ℕ) (rest b : List ℕ) → ordinary c ≡ true → BehindPattern rest b → BehindPattern (c ∷ rest) b
ordinary_passed c rest b o h = past_byte c rest b (no_blank c o) (no_slash c o) (no_quote c o) (no_bracket c o) h
  where
    no_blank : (c : ℕ) → ordinary c ≡ true → is_blank c ≡ false
    no_blank c o = grind (arith, nat_tests)

    no_slash : (c : ℕ) → ordinary c ≡ true → c ≢ 92
    no_slash c o = grind (arith, nat_tests)

    no_quote : (c : ℕ) → ordinary c ≡ true → c ≢ 34
    no_quote c o = grind (arith, nat_tests)

    no_bracket : (c : ℕ) → ordinary c ≡ true → c ≢ 91
    no_bracket c o = grind (arith, nat_tests)

run_passed : (run rest b : List ℕ) → list_all ordinary run ≡ true → BehindPattern rest b → BehindPattern (run ++ rest) b
run_passed [] rest b all h = h
run_passed (c ∷ run) rest b all h = let both = and_parts (ordinary c) (list_all ordinary run) all in ordinary_passed c (run ++ rest) b both.0 (run_passed run rest b both.1 h)

hexadecimal_ordinary : (c : ℕ) → is_digit 16 c ≡ true → ordinary c ≡ true
hexadecimal_ordinary c h = grind (arith, nat_tests)

decimal_ordinary : (c : ℕ) → is_digit 10 c ≡ true → ordinary c ≡ true
decimal_ordinary c h = grind (arith, nat_tests)

name_ordinary : (c : ℕ) → is_name_byte c ≡ true → ordinary c ≡ true
name_ordinary c h = grind (arith, nat_tests)

byte_ordinary : (c : ℕ) (l : Lexeme) → byte_lexeme c ≡ Some l → ordinary c ≡ true
byte_ordinary c l e = join (nat_eq c 32) (nat_eq c 9) (nat_eq c 92) (nat_eq c 34) (nat_eq c 91) (byte_other c 32 l e refl) (byte_other c 9 l e refl) (byte_other c 92 l e refl) (byte_other c 34 l e refl) (byte_other c 91 l e refl)
  where
    join : (p q r s t : Bool) → p ≡ false → q ≡ false → r ≡ false → s ≡ false → t ≡ false → not ((p || q) || (r || (s || t))) ≡ true
    join p q r s t a b d f g = rw (a, b, d, f, g) refl

digits_then : (digits tail rest b : List ℕ) (n : ℕ) → IsBound digits n → BehindPattern (tail ++ rest) b → BehindPattern (123 ∷ ((digits ++ tail) ++ rest)) b
digits_then digits tail rest b n i h =
    ordinary_passed 123 ((digits ++ tail) ++ rest) b refl (subst (λ t. BehindPattern t b) (sym (append_assoc digits tail rest)) (run_passed digits (tail ++ rest) b (all_imply (is_digit 10) ordinary decimal_ordinary digits i.decimal) h))

spelling_passed : (prefix : List ℕ) (l : Lexeme) (rest : List ℕ) → Spells prefix l rest → (b : List ℕ) → BehindPattern rest b → BehindPattern (prefix ++ rest) b
spelling_passed _ _ _ (of_byte c l rest e) b h = ordinary_passed c rest b (byte_ordinary c l e) h
spelling_passed _ _ _ (of_escape text byte rest d) b h = escape_passed BehindPattern (λ c t b h. past_escape c t b h) (λ c t b d h. ordinary_passed c t b (hexadecimal_ordinary c d) h) text byte rest d b h
spelling_passed _ _ _ (of_string text first more rest (prefix, tail, i, j, closed)) b h =
    past_quotes (text ++ rest) rest b
    (subst (λ t. BehindQuotes t rest) (sym (ap (λ t. t ++ rest) j ∙ append_assoc prefix tail rest)) (quoted_byte_passed prefix first (tail ++ rest) i rest (quotes_passed more tail rest closed))) h
spelling_passed _ _ _ (of_bracket text s rest d) b h = bracket_passed text s rest d b h
spelling_passed _ _ _ (of_name n rest e) b h =
    ordinary_passed 123 ((n ++ (125 ∷ [])) ++ rest) b refl (subst (λ t. BehindPattern t b) (sym (append_assoc n (125 ∷ []) rest))
    (run_passed n (125 ∷ rest) b (all_imply is_name_byte ordinary name_ordinary n (identifier_bytes n e)) (ordinary_passed 125 rest b refl h)))
spelling_passed _ _ _ (exactly digits n rest i) b h = digits_then digits (125 ∷ []) rest b n i (ordinary_passed 125 rest b refl h)
spelling_passed _ _ _ (at_least digits n rest i) b h = digits_then digits (44 ∷ 125 ∷ []) rest b n i (ordinary_passed 44 (125 ∷ rest) b refl (ordinary_passed 125 rest b refl h))
spelling_passed _ _ _ (between digits low more high rest i k le) b h =
    digits_then digits (44 ∷ (more ++ (125 ∷ []))) rest b low i (ordinary_passed 44 ((more ++ (125 ∷ [])) ++ rest) b refl
    (subst (λ t. BehindPattern t b) (sym (append_assoc more (125 ∷ []) rest)) (run_passed more (125 ∷ rest) b (all_imply (is_digit 10) ordinary decimal_ordinary more k.decimal) (ordinary_passed 125 rest b refl h))))

lexemes_passed : (text : List ℕ) (ls : List Lexeme) (ending b : List ℕ) → Lexes text ls ending → BehindPattern ending b → BehindPattern text b
lexemes_passed text [] ending b h e = subst (λ t. BehindPattern t b) (sym h) e
lexemes_passed text (l ∷ ls) ending b (prefix, rest, d, j, more) e = subst (λ t. BehindPattern t b) (sym j) (spelling_passed prefix l rest d b (lexemes_passed rest ls ending b more e))

ending_passed : (ending : List ℕ) (a : Bool) → IsEnding ending a → BehindPattern ending []
ending_passed _ _ nothing = at_end
ending_passed _ _ dollar = ordinary_passed 36 [] [] refl at_end
ending_passed _ _ slash_newline = ordinary_passed 47 (92 ∷ 110 ∷ []) [] refl (past_escape 110 [] [] at_end)

pub reaches_end : (text : List ℕ) (r : Reading) → IsPattern text r → IsPatternEnd text (length text)
reaches_end text r p =
    let none : drop (length text) text ≡ [] = (let le : length text ≤ length text = omega arith in drop_of_length-le text le) in
    record { within = omega arith; behind = subst (BehindPattern text) (sym none) (whole (r.line_begin) refl) }
  where
    body : BehindPattern (p.body) []
    body = lexemes_passed (p.body) (p.lexemes) (p.ending) [] p.spelled (ending_passed (p.ending) (r.line_end) p.ends)

    whole : (b : Bool) → r.line_begin ≡ b → BehindPattern text []
    whole true eb = subst (λ t. BehindPattern t []) (sym (p.begins ∙ ap (λ c. cond {A = List ℕ} c (94 ∷ p.body) (p.body)) eb)) (ordinary_passed 94 (p.body) [] refl body)
    whole false eb = subst (λ t. BehindPattern t []) (sym (p.begins ∙ ap (λ c. cond {A = List ℕ} c (94 ∷ p.body) (p.body)) eb)) body
