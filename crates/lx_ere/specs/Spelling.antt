-- The spellings of lexemes (XCU `lex`, "Regular Expressions in lex").
use Rattle.std.specs.Prelude.{◌≡◌, ◌≢◌, ℕ, ◌<◌, ◌≤◌, Bool, true, false, not, ◌&&◌, ◌||◌, nat_eq, if◌then◌else◌, List, [], ◌∷◌, ◌++◌, length, Option, Some, None}
use Rattle.std.specs.List.{list_all}
use Rattle.std.specs.Ordering.{nat_cmp}
use Rattle.std.specs.FinSet as set
use Rattle.lx_ere.specs.Bytes.{is_between, byte_set, bytes_where}
use Rattle.lx_ere.specs.Grammar.{Lexeme, set_of, quoted, name, interval, repeat, open_group, close_group, bar}
use Rattle.lx_ere.specs.Limits.{max_interval_bound}
use Rattle.lx_ere.specs.Escapes.{is_digit, number_of, Escape}
use Rattle.lx_ere.specs.Sequences.{Opened}
use Rattle.lx_ere.specs.Brackets.{Bracket}

-- a byte that represents itself: none of a newline, tab, space and " $ ( ) * + . / ? [ \ ^ { |
abbrev pub is_plain : ℕ → Bool
is_plain c = list_all (λ special. not (nat_eq c special)) (10 ∷ 9 ∷ 32 ∷ 34 ∷ 36 ∷ 40 ∷ 41 ∷ 42 ∷ 43 ∷ 46 ∷ 47 ∷ 63 ∷ 91 ∷ 92 ∷ 94 ∷ 123 ∷ 124 ∷ [])

-- the lexeme of one byte: an operator, a period, which is every byte but a newline, or a byte for itself
abbrev pub byte_lexeme : ℕ → Option Lexeme
byte_lexeme c =
    if nat_eq c 40 then Some open_group
    else if nat_eq c 41 then Some close_group
    else if nat_eq c 42 then Some (repeat 0 None)
    else if nat_eq c 43 then Some (repeat 1 None)
    else if nat_eq c 63 then Some (repeat 0 (Some 1))
    else if nat_eq c 124 then Some bar
    else if nat_eq c 46 then Some (set_of (bytes_where (λ b. not (is_between 10 10 b))))
    else if is_plain c then Some (set_of (byte_set c))
    else None

-- With `behind` after it, the text is one byte of a quoted string: an escape, or any byte but `"`, `\` and a newline.
pub data QuotedByte : List ℕ → ℕ → List ℕ → Type 0 where
  unescaped : (c : ℕ) (behind : List ℕ) → c ≢ 34 → c ≢ 92 → c ≢ 10 → QuotedByte (c ∷ []) c behind
  escaped_byte : (text : List ℕ) (c : ℕ) (behind : List ℕ) → Escape text c behind → QuotedByte text c behind

abbrev pub is_name_start : ℕ → Bool
is_name_start c = is_between 65 90 c || (is_between 97 122 c || nat_eq c 95)

abbrev pub is_name_byte : ℕ → Bool
is_name_byte c = is_name_start c || is_between 48 57 c

-- a letter or `_`, then letters, digits and `_`
abbrev pub is_identifier : List ℕ → Bool
is_identifier [] = false
is_identifier (c ∷ more) = is_name_start c && list_all is_name_byte more

-- one or more decimal digits, whose value a bound may have
pub record IsBound (digits : List ℕ) (bound : ℕ) : Type 0 where
  pub some : 0 < length digits
  pub decimal : list_all (is_digit 10) digits ≡ true
  pub value : number_of 10 digits ≡ bound
  pub small : bound ≤ max_interval_bound

-- With `behind` after it, the text spells the lexeme.
pub data Spells : List ℕ → Lexeme → List ℕ → Type 0 where
  of_byte : (c : ℕ) (l : Lexeme) (behind : List ℕ) → byte_lexeme c ≡ Some l → Spells (c ∷ []) l behind
  of_escape : (text : List ℕ) (byte : ℕ) (behind : List ℕ) → Escape text byte behind → Spells text (set_of (byte_set byte)) behind
  of_string : (text : List ℕ) (first : ℕ) (more : List ℕ) (behind : List ℕ) → Opened QuotedByte QuotedByte 34 text first more behind → Spells (34 ∷ text) (quoted first more) behind
  of_bracket : (text : List ℕ) (s : set.FinSet nat_cmp) (behind : List ℕ) → Bracket text s behind → Spells text (set_of s) behind
  of_name : (n behind : List ℕ) → is_identifier n ≡ true → Spells (123 ∷ (n ++ (125 ∷ []))) (name n) behind
  exactly : (digits : List ℕ) (n : ℕ) (behind : List ℕ) → IsBound digits n → Spells (123 ∷ (digits ++ (125 ∷ []))) (interval n (Some n)) behind
  at_least : (digits : List ℕ) (n : ℕ) (behind : List ℕ) → IsBound digits n → Spells (123 ∷ (digits ++ (44 ∷ 125 ∷ []))) (interval n None) behind
  between : (digits : List ℕ) (low : ℕ) (more : List ℕ) (high : ℕ) (behind : List ℕ) → IsBound digits low → IsBound more high → low ≤ high →
      Spells (123 ∷ (digits ++ (44 ∷ (more ++ (125 ∷ []))))) (interval low (Some high)) behind

-- The text is spellings of the lexemes, one after the other, and then `behind`.
abbrev pub Lexes : List ℕ → List Lexeme → List ℕ → Type 0
Lexes text [] behind = text ≡ behind
Lexes text (l ∷ ls) behind = (prefix : List ℕ) × (rest : List ℕ) × Spells prefix l rest × (text ≡ prefix ++ rest) × Lexes rest ls behind
