-- Escapes (XCU `lex`, "Regular Expressions in lex", the table of escape sequences; XBD 5).
use Rattle.std.specs.Prelude.{◌≡◌, ◌≢◌, ℕ, ◌+◌, ◌-◌, ◌*◌, ◌<◌, ◌≤◌, Bool, true, false, ◌&&◌, ◌||◌, nat_eq, nat_lt, nat_le, if◌then◌else◌, List, [], ◌∷◌, length, Option, Some, None}
use Rattle.std.specs.List.{list_all}
use Rattle.lx_ere.specs.Bytes.{is_between}

-- the value of a digit, at most 15
abbrev pub digit_of : ℕ → ℕ
digit_of c = if nat_le c 57 then c - 48 else if nat_le c 70 then c - 55 else c - 87

-- a digit in a base of at most 16
abbrev pub is_digit : ℕ → ℕ → Bool
is_digit base c = (is_between 48 57 c || (is_between 65 70 c || is_between 97 102 c)) && nat_lt (digit_of c) base

-- the number that the digits after n spell
abbrev pub number_behind : ℕ → ℕ → List ℕ → ℕ
number_behind base n [] = n
number_behind base n (d ∷ digits) = number_behind base (n * base + digit_of d) digits

abbrev pub number_of : ℕ → List ℕ → ℕ
number_of base digits = number_behind base 0 digits

-- no byte that passes the test is at the start
abbrev pub NoneFirst : (ℕ → Bool) → List ℕ → Type 0
NoneFirst test [] = Unit {0}
NoneFirst test (c ∷ text) = test c ≡ false

-- the byte of a backslash and a letter
abbrev pub letter_byte : ℕ → Option ℕ
letter_byte c =
    if nat_eq c 97 then Some 7
    else if nat_eq c 98 then Some 8
    else if nat_eq c 116 then Some 9
    else if nat_eq c 110 then Some 10
    else if nat_eq c 118 then Some 11
    else if nat_eq c 102 then Some 12
    else if nat_eq c 114 then Some 13
    else None

-- With `behind` after it, the text is a backslash with one of these: a letter above; the longest run of one to three octal digits; `x` and the
-- longest run of hexadecimal digits; `x` for itself if none follows; any other byte except a newline, for itself.
pub data Escape : List ℕ → ℕ → List ℕ → Type 0 where
  letter : (c byte : ℕ) (behind : List ℕ) → letter_byte c ≡ Some byte → Escape (92 ∷ c ∷ []) byte behind
  octal : (digits behind : List ℕ) → 0 < length digits → length digits ≤ 3 → list_all (is_digit 8) digits ≡ true → (length digits < 3 → NoneFirst (is_digit 8) behind) →
      number_of 8 digits < 256 → Escape (92 ∷ digits) (number_of 8 digits) behind
  hexadecimal : (digits behind : List ℕ) → 0 < length digits → list_all (is_digit 16) digits ≡ true → NoneFirst (is_digit 16) behind →
      number_of 16 digits < 256 → Escape (92 ∷ 120 ∷ digits) (number_of 16 digits) behind
  only_x : (behind : List ℕ) → NoneFirst (is_digit 16) behind → Escape (92 ∷ 120 ∷ []) 120 behind
  itself : (c : ℕ) (behind : List ℕ) → letter_byte c ≡ None → is_digit 8 c ≡ false → c ≢ 120 → c ≢ 10 → Escape (92 ∷ c ∷ []) c behind
