-- The bytes of a text as a line shows them.
use Rattle.std.specs.Prelude.{ℕ, ◌≡◌, ◌≤◌, ◌+◌, ◌/◌, ◌%◌, ◌==◌, ◌&&◌, nat_lt, nat_le, if◌then◌else◌, List, [], ◌∷◌, ◌++◌, codes}

-- an upper-case hexadecimal digit
abbrev pub hex_digit : ℕ → ℕ
hex_digit n = if nat_lt n 10 then 48 + n else 55 + n

-- A byte of a text as a line shows it: a backslash twice, the other bytes from 32 to 126 unchanged, and each other byte as a backslash, an x and two
-- digits.
abbrev pub escaped : ℕ → List ℕ
escaped byte =
    if byte == 92 then codes "\\\\"
    else if nat_le 32 byte && nat_le byte 126 then byte ∷ []
    else codes "\\x" ++ hex_digit (byte / 16) ∷ hex_digit (byte % 16) ∷ []

-- a byte of a name in a line: a blank as two digits, and any other byte like one of a text
abbrev pub name_escaped : ℕ → List ℕ
name_escaped byte = if byte == 32 then codes "\\x20" else escaped byte

-- the bytes from the least one to 126 are shown as they are, except for a backslash
pub record ShowsPlain (least : ℕ) (shown : ℕ → List ℕ) : Type 0 where
  pub plain : (x : ℕ) → least ≤ x → x ≤ 126 → (x ≡ 92 → ⊥) → shown x ≡ x ∷ []
