-- The lines of a listing, one by one.
use Rattle.std.specs.Prelude.{ℕ, List, ◌++◌, codes, decimal}
use Rattle.std.specs.List.{flat_map}
use Rattle.lx_rules.specs.declared.rule.Kind.{Kind}
use Rattle.lx_rules.specs.declared.rule.Kind.TheVariants.{Name, Number}
use Rattle.lx_scan.specs.declared.item.Item.{Item}
use Rattle.lx_scan.specs.declared.item.Item.TheVariants.{Token, Echo}
use Rattle.lx_scan.specs.ItemParts.{line_of as line_number, start_of, len_of, text_of}
use Rattle.lx_tables.specs.Model.{Table, kind_at}
use Rattle.lx_piece.specs.Plans.{Planned, bytes_of}
use Rattle.lx_line.specs.Escapes.{escaped}

-- the class: a token or an Echo
abbrev pub class_text : Item → List ℕ
class_text (Token line start len kind) = codes "T"
class_text (Echo line start len) = codes "E"

-- the name of a kind, or its number
abbrev pub name_in : Table → Kind → List ℕ
name_in table (Name place) = kind_at table place
name_in table (Number number) = decimal number

abbrev pub name_text : Planned → Kind → List ℕ
name_text plan kind = name_in plan.table kind

-- the kind of a token
abbrev pub kind_in : Table → Item → List ℕ
kind_in table (Token line start len kind) = name_in table kind
kind_in table (Echo line start len) = codes "-"

abbrev pub kind_text : Planned → Item → List ℕ
kind_text plan item = kind_in plan.table item

-- The line of an item with this text: the number of its file, its class, its kind, its line, its start and its length, with a space after each, and
-- the text.
abbrev pub line_with : Table → ℕ → Item → List ℕ → List ℕ
line_with table file item text =
    decimal file ++ codes " " ++ class_text item ++ codes " " ++ kind_in table item ++ codes " "
    ++ decimal (line_number item) ++ codes " " ++ decimal (start_of item) ++ codes " " ++ decimal (len_of item) ++ codes " "
    ++ flat_map escaped text ++ codes "\n"

-- the line of an item of a file
abbrev pub line_of : Planned → ℕ → Item → List ℕ
line_of plan file item = line_with plan.table file item (text_of (bytes_of plan file) item)

-- the lines of items of a file, in order
abbrev pub lines_of : Planned → ℕ → List Item → List ℕ
lines_of plan file items = flat_map (line_of plan file) items

-- the line of a file whose reading failed
abbrev pub cut_line : ℕ → List ℕ
cut_line file = decimal file ++ codes " ! cut\n"
