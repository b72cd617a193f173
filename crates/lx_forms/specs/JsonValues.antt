-- The meaning of a JSON line: its value of RFC 8259.
use Rattle.std.specs.Prelude.{ℕ, ◌<◌, ◌^◌, true, if◌then◌else◌, List, [], ◌∷◌, ◌++◌, codes, decimal}
use Rattle.std.specs.List.{flat_map}
use Rattle.std.specs.Option.{option_map_or}
use Rattle.std.specs.Str.{is_utf8}
use Rattle.json.specs.Json.{Json, Members, boolean, member, no_members, number, object, string}
use Rattle.lx_rules.specs.declared.rule.Kind.TheVariants.{Name, Number}
use Rattle.lx_scan.specs.declared.item.Item.{Item}
use Rattle.lx_scan.specs.declared.item.Item.TheVariants.{Token, Echo}
use Rattle.lx_scan.specs.ItemParts.{line_of as line_number, start_of, len_of, text_of}
use Rattle.lx_piece.specs.Plans.{Planned, bytes_of, kind_of}
use Rattle.lx_forms.specs.Forms.{PlainForm, name_of, number_in}
use Rattle.lx_forms.specs.JsonLines.{hex_pair}

-- the value of a member: a text, a number, or true
pub data Said : Type 0 where
  text : List ℕ → Said
  count : ℕ → Said
  truth : Said

-- a member's name, and its value
abbrev pub Member : Type 0
Member = List ℕ × Said

abbrev pub value_of : Said → Json
value_of (text bytes) = string bytes
value_of (count n) = number (decimal n)
value_of truth = boolean true

abbrev pub members_of : List Member → Members
members_of [] = no_members
members_of (m ∷ ms) = member m.0 (value_of m.1) (members_of ms)

abbrev pub object_of : List Member → Json
object_of ms = object (members_of ms)

-- a number has at most 64 bits, as each one that is printed
abbrev pub IsSmall : Said → Type 0
IsSmall (text bytes) = Unit {0}
IsSmall (count n) = n < 2 ^ 64
IsSmall truth = Unit {0}

abbrev pub AreSmall : List Member → Type 0
AreSmall [] = Unit {0}
AreSmall (m ∷ ms) = IsSmall m.1 × AreSmall ms

-- bytes under the first name if they are UTF-8, otherwise their digits under the second
abbrev pub bytes_said : List ℕ → List ℕ → List ℕ → Member
bytes_said name hex_name bytes = if is_utf8 bytes then (name, text bytes) else (hex_name, text (flat_map hex_pair bytes))

abbrev pub file_said : PlainForm → ℕ → Member
file_said form file = (codes "file", count (number_in form file))

abbrev pub name_said : PlainForm → ℕ → List Member
name_said form file = option_map_or (λ names. bytes_said (codes "name") (codes "name_hex") (name_of names file) ∷ []) form.names []

abbrev pub sort_said : Planned → Item → Member
sort_said plan (Token line start len (Name place)) = (codes "kind", text (kind_of plan place))
sort_said plan (Token line start len (Number n)) = (codes "kind", count n)
sort_said plan (Echo line start len) = (codes "echo", truth)

abbrev pub place_said : Item → List Member
place_said item = (codes "line", count (line_number item)) ∷ (codes "start", count (start_of item)) ∷ (codes "len", count (len_of item)) ∷ []

abbrev pub text_said : PlainForm → List ℕ → List Member
text_said form bytes = if form.text then bytes_said (codes "text") (codes "hex") bytes ∷ [] else []

-- the line of an item
abbrev pub item_said : PlainForm → Planned → ℕ → Item → List Member
item_said form plan file item = file_said form file ∷ (name_said form file ++ (sort_said plan item ∷ (place_said item ++ text_said form (text_of (bytes_of plan file) item))))

-- the line of a file whose reading failed
abbrev pub cut_said : PlainForm → ℕ → List Member
cut_said form file = file_said form file ∷ (name_said form file ++ (codes "cut", truth) ∷ [])
