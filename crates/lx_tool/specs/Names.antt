-- Names of files of any bytes. A text represents such a name: for each byte that isn't text, it has a character that carries the byte. These
-- characters are those from U+10FE00 to U+10FEFF, for private use. In UTF-8 each is the bytes 244 and 143, one from 184 to 187, and one from 128 to
-- 191.
use Rattle.std.specs.Prelude.{ℕ, suc, zero, ◌+◌, ◌-◌, ◌*◌, ◌∷◌, [], Bool, false, ◌&&◌, if◌then◌else◌, List, nat_eq, nat_le}

-- the text begins with a character that carries a byte
abbrev pub carries_byte : List ℕ → Bool
carries_byte [] = false
carries_byte (a ∷ []) = false
carries_byte (a ∷ b ∷ []) = false
carries_byte (a ∷ b ∷ c ∷ []) = false
carries_byte (a ∷ b ∷ c ∷ d ∷ rest) = nat_eq a 244 && (nat_eq b 143 && (nat_le 184 c && (nat_le c 187 && (nat_le 128 d && nat_le d 191))))

-- the byte that it carries
abbrev pub carried_byte : List ℕ → ℕ
carried_byte [] = 0
carried_byte (a ∷ []) = 0
carried_byte (a ∷ b ∷ []) = 0
carried_byte (a ∷ b ∷ c ∷ []) = 0
carried_byte (a ∷ b ∷ c ∷ d ∷ rest) = (c - 184) * 64 + (d - 128)

-- the bytes that a text represents, after this number of skipped bytes
unfoldable pub bytes_after : ℕ → List ℕ → List ℕ
bytes_after passed [] = []
bytes_after (suc passed) (x ∷ text) = bytes_after passed text
bytes_after zero (x ∷ text) = if carries_byte (x ∷ text) then carried_byte (x ∷ text) ∷ bytes_after 3 text else x ∷ bytes_after zero text

-- the bytes that a text represents
abbrev pub name_bytes : List ℕ → List ℕ
name_bytes text = bytes_after 0 text
