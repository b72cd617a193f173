-- The spelling at the front of a text, by computation. The contracts of the functions that read one cite these; that they find the spellings of
-- Escapes, Brackets and Spelling, and no others, is proved in proofs/.
use Rattle.std.specs.Prelude.{◌≡◌, codes, ℕ, zero, suc, Bool, true, false, not, ◌&&◌, ◌||◌, nat_eq, nat_lt, nat_le, if◌then◌else◌, List, [], ◌∷◌, length, take, drop, Option, Some, None}
use Rattle.std.specs.Option.{option_map, option_and_then}
use Rattle.std.specs.Ordering.{nat_cmp}
use Rattle.std.specs.FinSet as set
use Rattle.lx_ere.specs.Bytes.{byte_set, bytes_where}
use Rattle.std.specs.Str.{bytes_eq}
use Rattle.lx_ere.specs.Regex.{Regex}
use Rattle.lx_ere.specs.Grammar.{Lexeme, set_of, quoted, name, interval, IsAlternation}
use Rattle.lx_ere.specs.Escapes.{is_digit, number_of, letter_byte}
use Rattle.lx_ere.specs.Brackets.{BracketPosition, opening, behind_caret, inside, is_inside, begins_with, stands_alone, range_follows, class_ranges, in_members}
use Rattle.lx_ere.specs.Spelling.{byte_lexeme, is_name_byte, is_identifier, Lexes}

-- the number of bytes at the start that pass the test, up to a limit
abbrev pub run_len : (ℕ → Bool) → ℕ → List ℕ → ℕ
run_len test zero text = 0
run_len test (suc n) [] = 0
run_len test (suc n) (c ∷ text) = if test c then suc (run_len test n text) else 0

-- the number that the digits spell, if it is a byte
abbrev pub byte_of : ℕ → List ℕ → Option ℕ
byte_of base digits = if nat_lt (number_of base digits) 256 then Some (number_of base digits) else None

-- the byte that the first n digits spell, and the text after them
abbrev pub number_at : ℕ → ℕ → List ℕ → Option (ℕ × List ℕ)
number_at base n text = option_map (λ byte. (byte, drop n text)) (byte_of base (take n text))

-- the text after the byte at the start
abbrev pub behind_byte : ℕ → List ℕ → Option (List ℕ)
behind_byte c [] = None
behind_byte c (d ∷ text) = if nat_eq d c then Some text else None

abbrev pub hexadecimal_at : ℕ → List ℕ → Option (ℕ × List ℕ)
hexadecimal_at n text = if nat_eq n 0 then Some (120, text) else number_at 16 n text

abbrev pub other_at : ℕ → List ℕ → Option (ℕ × List ℕ)
other_at c text =
    if is_digit 8 c then number_at 8 (run_len (is_digit 8) 3 (c ∷ text)) (c ∷ text)
    else if nat_eq c 120 then hexadecimal_at (run_len (is_digit 16) (length text) text) text
    else if nat_eq c 10 then None
    else Some (c, text)

abbrev pub letter_or_other : Option ℕ → ℕ → List ℕ → Option (ℕ × List ℕ)
letter_or_other (Some byte) c text = Some (byte, text)
letter_or_other None c text = other_at c text

-- the byte of an escape, starting after the backslash
abbrev pub escape_at : List ℕ → Option (ℕ × List ℕ)
escape_at [] = None
escape_at (c ∷ text) = letter_or_other (letter_byte c) c text

-- items up to the closing byte, at most this number
abbrev pub items_at : {A : Type 0} → (List ℕ → Option (A × List ℕ)) → ℕ → ℕ → List ℕ → Option (List A × List ℕ)
items_at item_at close zero text = None
items_at item_at close (suc n) text =
    if begins_with close text then Some ([], drop 1 text)
    else option_and_then (λ f. option_map (λ g. (f.0 ∷ g.0, g.1)) (items_at item_at close n (f.1))) (item_at text)

abbrev pub all_items_at : {A : Type 0} → (List ℕ → Option (A × List ℕ)) → ℕ → List ℕ → Option (List A × List ℕ)
all_items_at item_at close text = items_at item_at close (suc (length text)) text

-- a first item, and the items up to the closing byte
abbrev pub opened_at : {A : Type 0} → (List ℕ → Option (A × List ℕ)) → (List ℕ → Option (A × List ℕ)) → ℕ → List ℕ → Option (A × List A × List ℕ)
opened_at first_at item_at close text = option_and_then (λ f. option_map (λ g. (f.0, g.0, g.1)) (all_items_at item_at close (f.1))) (first_at text)

-- one byte but a newline, the mark and `]`
abbrev pub marked_byte_at : ℕ → List ℕ → Option (ℕ × List ℕ)
marked_byte_at mark [] = None
marked_byte_at mark (c ∷ text) = if nat_eq c 10 then None else option_map (λ rest. (c, rest)) (option_and_then (behind_byte 93) (behind_byte mark text))

-- the byte at the start of brackets, if it isn't an escape
abbrev pub bare_point_at : BracketPosition → ℕ → List ℕ → Option (ℕ × List ℕ)
bare_point_at position c text =
    if nat_eq c 93 then (if is_inside position then None else Some (93, text))
    else if nat_eq c 45 then (if not (is_inside position) || begins_with 93 text then Some (45, text) else None)
    else if nat_eq c 91 && begins_with 46 text then marked_byte_at 46 (drop 1 text)
    else if stands_alone position c text then Some (c, text)
    else None

abbrev pub point_at : BracketPosition → List ℕ → Option (ℕ × List ℕ)
point_at position [] = None
point_at position (c ∷ text) = if nat_eq c 92 then escape_at text else bare_point_at position c text

-- the end of a range, starting after the `-`
abbrev pub range_end_at : List ℕ → Option (ℕ × List ℕ)
range_end_at text = if begins_with 45 text then Some (45, drop 1 text) else point_at inside text

abbrev pub range_from : ℕ → ℕ × List ℕ → Option (List (ℕ × ℕ) × List ℕ)
range_from low f = if nat_le low (f.0) then Some ((low, f.0) ∷ [], f.1) else None

-- a point and the text after it, as a member
abbrev pub member_from : ℕ × List ℕ → Option (List (ℕ × ℕ) × List ℕ)
member_from f = if range_follows (f.1) then option_and_then (range_from (f.0)) (range_end_at (drop 1 (f.1))) else Some ((f.0, f.0) ∷ [], f.1)

-- a class whose name has n bytes, starting after the `[:`
abbrev pub class_of : ℕ → List ℕ → Option (List (ℕ × ℕ) × List ℕ)
class_of n text =
    option_and_then (λ ranges. option_map (λ rest. (ranges, rest)) (option_and_then (behind_byte 93) (behind_byte 58 (drop n text)))) (class_ranges (take n text))

abbrev pub class_at : List ℕ → Option (List (ℕ × ℕ) × List ℕ)
class_at text = class_of (run_len is_name_byte (length text) text) text

abbrev pub begins_pair : ℕ → ℕ → List ℕ → Bool
begins_pair c d text = begins_with c text && begins_with d (drop 1 text)

abbrev pub member_at : BracketPosition → List ℕ → Option (List (ℕ × ℕ) × List ℕ)
member_at position text =
    if begins_pair 91 58 text then class_at (drop 2 text)
    else if begins_pair 91 61 text then option_map (λ f. ((f.0, f.0) ∷ [], f.1)) (marked_byte_at 61 (drop 2 text))
    else option_and_then member_from (point_at position text)

-- the members, starting after `[` or `[^`
abbrev pub members_at : BracketPosition → List ℕ → Option (List (ℕ × ℕ) × List (List (ℕ × ℕ)) × List ℕ)
members_at position text = opened_at (member_at position) (member_at inside) 93 text

-- the set of the members, and the text after them
abbrev pub members_set : List (ℕ × ℕ) × List (List (ℕ × ℕ)) × List ℕ → set.FinSet nat_cmp × List ℕ
members_set f = (bytes_where (in_members (f.0 ∷ f.1)), f.2)

-- the bytes that pass the test or are in the members, and the text after these
abbrev pub with_members : (ℕ → Bool) → List (List (ℕ × ℕ)) × List ℕ → set.FinSet nat_cmp × List ℕ
with_members test f = (bytes_where (λ b. test b || in_members (f.0) b), f.1)

-- a bracket expression, starting after the `[`
abbrev pub bracket_at : List ℕ → Option (set.FinSet nat_cmp × List ℕ)
bracket_at text =
    if begins_with 94 text then option_map (λ f. (bytes_where (λ b. not (in_members (f.0 ∷ f.1) b)), f.2)) (members_at behind_caret (drop 1 text))
    else option_map (λ f. (bytes_where (in_members (f.0 ∷ f.1)), f.2)) (members_at opening text)

abbrev pub unescaped_at : ℕ → List ℕ → Option (ℕ × List ℕ)
unescaped_at c text = if nat_eq c 34 || nat_eq c 10 then None else Some (c, text)

-- a byte of a quoted string
abbrev pub quoted_byte_at : List ℕ → Option (ℕ × List ℕ)
quoted_byte_at [] = None
quoted_byte_at (c ∷ text) = if nat_eq c 92 then escape_at text else unescaped_at c text

-- a quoted string, starting after the `"`
abbrev pub string_at : List ℕ → Option (Lexeme × List ℕ)
string_at text = option_map (λ f. (quoted (f.0) (f.1), f.2)) (opened_at quoted_byte_at quoted_byte_at 34 text)

-- a name of n bytes and the closing brace
abbrev pub name_of : ℕ → List ℕ → Option (Lexeme × List ℕ)
name_of n text = if is_identifier (take n text) then option_map (λ rest. (name (take n text), rest)) (behind_byte 125 (drop n text)) else None

abbrev pub name_at : List ℕ → Option (Lexeme × List ℕ)
name_at text = name_of (run_len is_name_byte (length text) text) text

-- the bound of an interval, of n digits
abbrev pub bound_of : ℕ → List ℕ → Option (ℕ × List ℕ)
bound_of n text = if nat_eq n 0 then None else number_at 10 n text

abbrev pub bound_at : List ℕ → Option (ℕ × List ℕ)
bound_at text = bound_of (run_len (is_digit 10) (length text) text) text

abbrev pub high_at : ℕ → ℕ × List ℕ → Option (Lexeme × List ℕ)
high_at low f = if nat_le low (f.0) then option_map (λ rest. (interval low (Some (f.0)), rest)) (behind_byte 125 (f.1)) else None

-- the rest of an interval after the comma
abbrev pub behind_comma_at : ℕ → List ℕ → Option (Lexeme × List ℕ)
behind_comma_at low text =
    if begins_with 125 text then Some (interval low None, drop 1 text)
    else option_and_then (high_at low) (bound_at text)

-- the rest of an interval after the first bound
abbrev pub behind_low_at : ℕ × List ℕ → Option (Lexeme × List ℕ)
behind_low_at f =
    if begins_with 125 (f.1) then Some (interval (f.0) (Some (f.0)), drop 1 (f.1))
    else option_and_then (behind_comma_at (f.0)) (behind_byte 44 (f.1))

abbrev pub interval_at : List ℕ → Option (Lexeme × List ℕ)
interval_at text = option_and_then behind_low_at (bound_at text)

abbrev pub starts_digit : List ℕ → Bool
starts_digit [] = false
starts_digit (c ∷ text) = is_digit 10 c

-- a name or an interval, starting after the `{`
abbrev pub brace_at : List ℕ → Option (Lexeme × List ℕ)
brace_at text = if starts_digit text then interval_at text else name_at text

abbrev pub as_set : Option (ℕ × List ℕ) → Option (Lexeme × List ℕ)
as_set found = option_map (λ f. (set_of (byte_set (f.0)), f.1)) found

abbrev pub as_bracket : Option (set.FinSet nat_cmp × List ℕ) → Option (Lexeme × List ℕ)
as_bracket found = option_map (λ f. (set_of (f.0), f.1)) found

-- the lexeme of the single byte c
abbrev pub as_single : ℕ → List ℕ → Option (Lexeme × List ℕ)
as_single c text = option_map (λ l. (l, text)) (byte_lexeme c)

-- the lexeme whose first byte is c, first if that begins no escape, string or brackets, then if it may begin one
abbrev pub brace_or_byte : ℕ → List ℕ → Option (Lexeme × List ℕ)
brace_or_byte c text = if nat_eq c 123 then brace_at text else as_single c text

abbrev pub bracket_or_other : ℕ → List ℕ → Option (Lexeme × List ℕ)
bracket_or_other c text = if nat_eq c 91 then as_bracket (bracket_at text) else brace_or_byte c text

abbrev pub string_or_other : ℕ → List ℕ → Option (Lexeme × List ℕ)
string_or_other c text = if nat_eq c 34 then string_at text else bracket_or_other c text

abbrev pub escape_or_other : ℕ → List ℕ → Option (Lexeme × List ℕ)
escape_or_other c text = if nat_eq c 92 then as_set (escape_at text) else string_or_other c text

-- the lexeme at the start, and the text after it
abbrev pub lexeme_at : List ℕ → Option (Lexeme × List ℕ)
lexeme_at [] = None
lexeme_at (c ∷ text) = escape_or_other c text

-- the text without a `^` at its start
abbrev pub body_of : List ℕ → List ℕ
body_of text = if begins_with 94 text then drop 1 text else text

-- the anchor that the ending of a pattern means
abbrev pub ending_at : List ℕ → Option Bool
ending_at text =
    if nat_eq (length text) 0 then Some false
    else if bytes_eq text (codes "$") || bytes_eq text (codes "/\\n") then Some true
    else None

-- The text is the spellings of an alternation, this is its tree, and no spelling is at the start of the rest.
pub record Reads (text : List ℕ) (tree : Regex) (ending : List ℕ) : Type 0 where
  pub lexemes : List Lexeme
  pub spelled : Lexes text lexemes ending
  pub alternation : IsAlternation lexemes tree
  pub stops : lexeme_at ending ≡ None
