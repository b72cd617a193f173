-- The listing of a plan in a form.
use Rattle.std.specs.Prelude.{ℕ, zero, suc, Bool, if◌then◌else◌, List, [], ◌++◌}
use Rattle.std.specs.List.{filter, flat_map}
use Rattle.lx_tables.specs.Model.{Table}
use Rattle.lx_scan.specs.declared.item.Item.{Item}
use Rattle.lx_piece.specs.Plans.{Planned, files_of, is_cut, items_of}
use Rattle.lx_forms.specs.declared.format.Format.{Format}
use Rattle.lx_forms.specs.declared.format.Format.TheVariants.{Lines, Json}
use Rattle.lx_forms.specs.Forms.{PlainForm, passes}
use Rattle.lx_forms.specs.TextLines.{text_line, text_line_with, text_cut_line}
use Rattle.lx_forms.specs.JsonLines.{json_line, json_line_with, json_cut_line}

-- the line of an item, by the format
abbrev pub line_by : Format → PlainForm → Planned → ℕ → Item → List ℕ
line_by Lines form plan file item = text_line form plan file item
line_by Json form plan file item = json_line form plan file item

abbrev pub line_in : PlainForm → Planned → ℕ → Item → List ℕ
line_in form plan file item = line_by form.format form plan file item

-- the line of an item with this text, by the format
abbrev pub line_with_by : Format → PlainForm → Table → ℕ → Item → List ℕ → List ℕ
line_with_by Lines form table file item text = text_line_with form table file item text
line_with_by Json form table file item text = json_line_with form table file item text

-- the line of a file whose reading failed
abbrev pub cut_line_by : Format → PlainForm → ℕ → List ℕ
cut_line_by Lines form file = text_cut_line form file
cut_line_by Json form file = json_cut_line form file

abbrev pub cut_line_in : PlainForm → ℕ → List ℕ
cut_line_in form file = cut_line_by form.format form file

-- the lines of those items of a file that are printed, in order
unfoldable pub lines_in : PlainForm → Planned → ℕ → List Item → List ℕ
lines_in form plan file items = flat_map (line_in form plan file) (filter (passes form) items)

-- the lines after them: the cut line if the reading failed, otherwise none
abbrev pub cut_lines_in : PlainForm → ℕ → Bool → List ℕ
cut_lines_in form file cut = if cut then cut_line_in form file else []

-- the lines of a file
abbrev pub file_lines_in : PlainForm → Planned → ℕ → List ℕ
file_lines_in form plan file = lines_in form plan file (items_of plan file) ++ cut_lines_in form file (is_cut plan file)

-- the lines of the files below this one, in order
abbrev pub listing_to_in : PlainForm → Planned → ℕ → List ℕ
listing_to_in form plan zero = []
listing_to_in form plan (suc file) = listing_to_in form plan file ++ file_lines_in form plan file

-- the lines of all files, in order
abbrev pub listing_in : PlainForm → Planned → List ℕ
listing_in form plan = listing_to_in form plan (files_of plan)
