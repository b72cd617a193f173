-- Printable bytes, the display of others, and the parts that fill phrases.
use Rattle.std.specs.Prelude.{ℕ, ◌≡◌, ◌+◌, ◌/◌, ◌%◌, nat_eq, nat_lt, nat_le, ◌&&◌, Bool, true, if◌then◌else◌, List, [], ◌∷◌, ◌++◌, codes, decimal, length, take}
use Rattle.std.specs.List.{flat_map, list_all}

abbrev pub is_printed : ℕ → Bool
is_printed byte = nat_le 32 byte && nat_lt byte 127

-- no byte of the text is a control byte, a newline among them, or above 126
abbrev pub ArePrinted : List ℕ → Type 0
ArePrinted text = list_all is_printed text ≡ true

-- a hexadecimal digit
abbrev pub digit : ℕ → ℕ
digit n = if nat_lt n 10 then 48 + n else 55 + n

-- a byte as it is shown: by itself, or as `\xHH`
abbrev pub escaped : ℕ → List ℕ
escaped byte = if is_printed byte then byte ∷ [] else codes "\\x" ++ (digit (byte / 16) ∷ digit (byte % 16) ∷ [])

-- bytes as they are shown
unfoldable pub shown : List ℕ → List ℕ
shown bytes = flat_map escaped bytes

-- a name as it is shown; of a name longer than `most`, only the first bytes are shown
unfoldable pub shown_name : ℕ → List ℕ → List ℕ
shown_name most name = if nat_le (length name) most then shown name else shown (take most name) ++ shown (codes "..")

-- the replacement of a byte of a phrase: the name for `@`, the other name for `~`, the line for `#`, and any other byte itself
unfoldable pub filling : List ℕ → List ℕ → ℕ → ℕ → List ℕ
filling name other line byte =
    if nat_eq byte 64 then shown_name 64 name
    else (if nat_eq byte 126 then shown_name 64 other
    else (if nat_eq byte 35 then shown (decimal line) else escaped byte))

-- a filled phrase
unfoldable pub filled : List ℕ → List ℕ → ℕ → List ℕ → List ℕ
filled name other line phrase = flat_map (filling name other line) phrase
