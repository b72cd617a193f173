-- A mirror of the reader of lines: the meaning of a line of the first section by itself (XCU `lex`, "Definitions in lex"), by the first form that
-- fits it. The verdict on a text depends on it. Each text has one verdict and no other (laws, `one_verdict` and `some_verdict`).
use Rattle.std.specs.Prelude.{ℕ, ◌==◌, Bool, true, false, not, ◌&&◌, ◌||◌, nat_eq, if◌then◌else◌, List, [], ◌∷◌, length, drop, codes}
use Rattle.std.specs.List.{list_all}
use Rattle.std.specs.Cmp.Lexicographic.{pointwise}
use Rattle.lx_rules.specs.Identifiers.{is_digit, is_alphanumeric, is_word_byte, is_identifier}
use Rattle.lx_spec.specs.Bytes.{is_blank, begins, begins_with, has_pair, run, behind_run, trimmed, words_of}

pub data Line : Type 0 where
  -- empty, code, a comment on one line, or a declaration without effect
  skipped : Line
  opens_comment : Line
  opens_group : Line
  rules_begin : Line
  declares : (exclusive : Bool) (names : List (List ℕ)) → Line
  defines : (name substitute : List ℕ) → Line
  no_form : Line

abbrev pub is_empty : List ℕ → Bool
is_empty text = length text == 0

-- A declaration without effect, if it has its form.
abbrev pub plain_line : Bool → Line
plain_line b = if b then skipped else no_form

-- after the word that declares conditions: blanks, and names with blanks between
abbrev pub conditions_line : Bool → List ℕ → Line
conditions_line exclusive text =
    if begins is_blank text && (not (is_empty (behind_run is_blank text)) && list_all is_identifier (words_of text)) then declares exclusive (words_of text) else no_form

-- one of p n a e k o, by itself
abbrev pub is_size_word : List ℕ → Bool
is_size_word [] = false
is_size_word (c ∷ text) = is_empty text && (nat_eq c 112 || (nat_eq c 110 || (nat_eq c 97 || (nat_eq c 101 || (nat_eq c 107 || nat_eq c 111)))))

-- one decimal digit or more
abbrev pub is_number : List ℕ → Bool
is_number text = not (is_empty text) && list_all is_digit text

-- after the word of a size: blanks, a number, and blanks
abbrev pub size_line : List ℕ → Line
size_line text = plain_line (begins is_blank text && is_number (trimmed (behind_run is_blank text)))

-- one of noyywrap, nounput and noinput
abbrev pub is_option : List ℕ → Bool
is_option word =
    pointwise nat_eq word (codes "noyywrap") || (pointwise nat_eq word (codes "nounput") || pointwise nat_eq word (codes "noinput"))

-- after the word `option`: blanks, and options with blanks between
abbrev pub options_line : List ℕ → Line
options_line text = plain_line (begins is_blank text && (not (is_empty (behind_run is_blank text)) && list_all is_option (words_of text)))

-- a line that begins with % and another word than those that declare conditions
abbrev pub plain_percent_line : List ℕ → List ℕ → Line
plain_percent_line word text =
    if pointwise nat_eq word (codes "array") || pointwise nat_eq word (codes "pointer") then plain_line (is_empty (behind_run is_blank text))
    else if is_size_word word then size_line text
    else if pointwise nat_eq word (codes "option") then options_line text
    else no_form

-- a line that begins with % and this word, by the text after the word
abbrev pub percent_line : List ℕ → List ℕ → Line
percent_line word text =
    if begins (λ c. nat_eq c 115 || nat_eq c 83) word then conditions_line false text
    else if begins (λ c. nat_eq c 120 || nat_eq c 88) word then conditions_line true text
    else plain_percent_line word text

-- a line by the text after its %
abbrev pub percent_text : List ℕ → Line
percent_text text = percent_line (run is_alphanumeric text) (behind_run is_alphanumeric text)

-- a name, and after blanks its substitute
abbrev pub definition_line : List ℕ → List ℕ → Line
definition_line name text =
    if is_identifier name && (begins is_blank text && not (is_empty (behind_run is_blank text))) then defines name (trimmed (behind_run is_blank text)) else no_form

abbrev pub named_text : List ℕ → Line
named_text text = definition_line (run is_word_byte text) (behind_run is_word_byte text)

-- the first form that fits the line
abbrev pub line_of : List ℕ → Line
line_of [] = skipped
line_of (c ∷ text) =
    if is_blank c then skipped
    else if begins_with 47 42 (c ∷ text) then (if has_pair 42 47 (drop 1 text) then skipped else opens_comment)
    else if begins_with 37 123 (c ∷ text) then opens_group
    else if begins_with 37 37 (c ∷ text) then rules_begin
    else if nat_eq c 37 then percent_text text
    else named_text (c ∷ text)
