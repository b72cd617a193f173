-- Bytes as a report shows them.
use Rattle.std.specs.Prelude.{ℕ, ◌+◌, ◌/◌, ◌%◌, ◌==◌, nat_le, nat_lt, ◌&&◌, ◌||◌, Bool, if◌then◌else◌, List, [], ◌∷◌, ◌++◌, codes}
use Rattle.std.specs.List.{flat_map, range_with_len}

-- a byte, repeated
unfoldable pub times : ℕ → ℕ → List ℕ
times byte n = flat_map (λ k. byte ∷ []) (range_with_len 0 n)

-- a hexadecimal digit
abbrev pub digit : ℕ → ℕ
digit n = if nat_lt n 10 then 48 + n else 55 + n

-- a byte by two digits
abbrev pub pair : ℕ → List ℕ
pair byte = digit (byte / 16) ∷ digit (byte % 16) ∷ []

-- a byte as it is shown: those of 32 to 126 as they are, the others as `\xHH`
abbrev pub shown_byte : ℕ → List ℕ
shown_byte byte = if nat_le 32 byte && nat_lt byte 127 then byte ∷ [] else codes "\\x" ++ pair byte

-- a byte of a line of the source: a tab is a blank there
abbrev pub source_byte : ℕ → List ℕ
source_byte byte = if byte == 9 then codes " " else shown_byte byte

-- a byte as it is shown, in a string of JSON (RFC 8259, 7): a quote and a backslash have a backslash before them
abbrev pub string_byte : ℕ → List ℕ
string_byte byte =
    if byte == 34 || byte == 92 then 92 ∷ byte ∷ []
    else (if nat_le 32 byte && nat_lt byte 127 then byte ∷ [] else codes "\\\\x" ++ pair byte)

abbrev pub shown_string : List ℕ → List ℕ
shown_string bytes = codes "\"" ++ (flat_map string_byte bytes ++ codes "\"")

-- letters, digits, and `-./_~`
abbrev pub is_plain_in_uri : ℕ → Bool
is_plain_in_uri byte =
    (nat_le 48 byte && nat_le byte 57) || ((nat_le 65 byte && nat_le byte 90) || ((nat_le 97 byte && nat_le byte 122) || (byte == 45 || (byte == 46 || (byte == 47 || (byte == 95 || byte == 126))))))

-- a byte of a name in a URI (RFC 3986, 2.1 and 2.3)
abbrev pub uri_byte : ℕ → List ℕ
uri_byte byte = if is_plain_in_uri byte then byte ∷ [] else codes "%" ++ pair byte
