-- The lines of a listing in JSON: an object a line (RFC 8259).
use Rattle.std.specs.Prelude.{ℕ, ◌+◌, ◌/◌, ◌%◌, ◌==◌, nat_lt, if◌then◌else◌, List, [], ◌∷◌, ◌++◌, codes, decimal}
use Rattle.std.specs.List.{flat_map}
use Rattle.std.specs.Option.{option_map_or}
use Rattle.std.specs.Str.{is_utf8}
use Rattle.lx_rules.specs.declared.rule.Kind.{Kind}
use Rattle.lx_rules.specs.declared.rule.Kind.TheVariants.{Name, Number}
use Rattle.lx_tables.specs.Model.{Table, kind_at}
use Rattle.lx_scan.specs.declared.item.Item.{Item}
use Rattle.lx_scan.specs.declared.item.Item.TheVariants.{Token, Echo}
use Rattle.lx_scan.specs.ItemParts.{line_of as line_number, start_of, len_of, text_of}
use Rattle.lx_piece.specs.Plans.{Planned, bytes_of}
use Rattle.lx_forms.specs.Forms.{PlainForm, name_of, number_in}

-- a lower-case hexadecimal digit
abbrev pub small_digit : ℕ → ℕ
small_digit n = if nat_lt n 10 then 48 + n else 87 + n

-- a byte by two of them
abbrev pub hex_pair : ℕ → List ℕ
hex_pair byte = small_digit (byte / 16) ∷ small_digit (byte % 16) ∷ []

-- a byte in a string: a quote and a backslash after a backslash, one below 32 by its number, each other one unchanged
abbrev pub string_escaped : ℕ → List ℕ
string_escaped byte =
    if byte == 34 then codes "\\\""
    else if byte == 92 then codes "\\\\"
    else if nat_lt byte 32 then codes "\\u00" ++ hex_pair byte
    else byte ∷ []

-- a string of these bytes
abbrev pub string_of : List ℕ → List ℕ
string_of bytes = codes "\"" ++ flat_map string_escaped bytes ++ codes "\""

-- Bytes under one of two names: as a string under the first if they are UTF-8 (RFC 3629), otherwise under the second, each by two digits. `is_utf8`
-- is the test of std's `IsUtf8`: the bytes are those of some characters.
abbrev pub bytes_member : List ℕ → List ℕ → List ℕ → List ℕ
bytes_member name hex_name bytes =
    if is_utf8 bytes then name ++ string_of bytes else hex_name ++ codes "\"" ++ flat_map hex_pair bytes ++ codes "\""

-- the name of a file, if names are printed
abbrev pub name_member : PlainForm → ℕ → List ℕ
name_member form file = option_map_or (λ names. bytes_member (codes ",\"name\":") (codes ",\"name_hex\":") (name_of names file)) form.names []

-- the file: its number, and its name
abbrev pub file_members : PlainForm → ℕ → List ℕ
file_members form file = codes "{\"file\":" ++ decimal (number_in form file) ++ name_member form file

-- the name of a kind as a string, or its number
abbrev pub kind_value_in : Table → Kind → List ℕ
kind_value_in table (Name place) = string_of (kind_at table place)
kind_value_in table (Number number) = decimal number

abbrev pub kind_value : Planned → Kind → List ℕ
kind_value plan kind = kind_value_in plan.table kind

-- the kind of a token, or the mark of an Echo
abbrev pub sort_member_in : Table → Item → List ℕ
sort_member_in table (Token line start len kind) = codes ",\"kind\":" ++ kind_value_in table kind
sort_member_in table (Echo line start len) = codes ",\"echo\":true"

abbrev pub sort_member : Planned → Item → List ℕ
sort_member plan item = sort_member_in plan.table item

abbrev pub place_members : Item → List ℕ
place_members item =
    codes ",\"line\":" ++ decimal (line_number item) ++ codes ",\"start\":" ++ decimal (start_of item) ++ codes ",\"len\":" ++ decimal (len_of item)

-- a text, if texts are printed
abbrev pub text_member : PlainForm → List ℕ → List ℕ
text_member form text = if form.text then bytes_member (codes ",\"text\":") (codes ",\"hex\":") text else []

-- the line of an item with this text
abbrev pub json_line_with : PlainForm → Table → ℕ → Item → List ℕ → List ℕ
json_line_with form table file item text = file_members form file ++ sort_member_in table item ++ place_members item ++ text_member form text ++ codes "}\n"

-- the line of an item of a file
unfoldable pub json_line : PlainForm → Planned → ℕ → Item → List ℕ
json_line form plan file item = json_line_with form plan.table file item (text_of (bytes_of plan file) item)

-- the line of a file whose reading failed
unfoldable pub json_cut_line : PlainForm → ℕ → List ℕ
json_cut_line form file = file_members form file ++ codes ",\"cut\":true}\n"
