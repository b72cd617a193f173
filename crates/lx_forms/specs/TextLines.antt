-- The lines of a listing in the form of lines: as without options, except for the file and the text.
use Rattle.std.specs.Prelude.{ℕ, if◌then◌else◌, List, [], ◌++◌, codes, decimal}
use Rattle.std.specs.List.{flat_map}
use Rattle.std.specs.Option.{option_map_or}
use Rattle.lx_tables.specs.Model.{Table}
use Rattle.lx_scan.specs.declared.item.Item.{Item}
use Rattle.lx_scan.specs.ItemParts.{line_of as line_number, start_of, len_of, text_of}
use Rattle.lx_piece.specs.Plans.{Planned, bytes_of}
use Rattle.lx_line.specs.Lines.{class_text, kind_in}
use Rattle.lx_line.specs.Escapes.{escaped}
-- the escape of names
pub use Rattle.lx_line.specs.Escapes.{name_escaped}
use Rattle.lx_forms.specs.Forms.{PlainForm, name_of, number_in}

-- the file: its name if names are printed, otherwise its number
abbrev pub file_text : PlainForm → ℕ → List ℕ
file_text form file = option_map_or (λ names. flat_map name_escaped (name_of names file)) form.names (decimal (number_in form file))

-- a blank and a text, if texts are printed
abbrev pub text_part : PlainForm → List ℕ → List ℕ
text_part form text = if form.text then codes " " ++ flat_map escaped text else []

-- class, kind, line, start and length of an item, with a blank between each two
abbrev pub fields_in : Table → Item → List ℕ
fields_in table item =
    class_text item ++ codes " " ++ kind_in table item ++ codes " " ++ decimal (line_number item) ++ codes " " ++ decimal (start_of item) ++ codes " "
    ++ decimal (len_of item)

abbrev pub fields_of : Planned → Item → List ℕ
fields_of plan item = fields_in plan.table item

-- the line of an item with this text
abbrev pub text_line_with : PlainForm → Table → ℕ → Item → List ℕ → List ℕ
text_line_with form table file item text = file_text form file ++ codes " " ++ fields_in table item ++ text_part form text ++ codes "\n"

-- the line of an item of a file
unfoldable pub text_line : PlainForm → Planned → ℕ → Item → List ℕ
text_line form plan file item = text_line_with form plan.table file item (text_of (bytes_of plan file) item)

-- the line of a file whose reading failed
unfoldable pub text_cut_line : PlainForm → ℕ → List ℕ
text_cut_line form file = file_text form file ++ codes " ! cut\n"
