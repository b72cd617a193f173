-- The style of a form's lines.
use Rattle.std.specs.Prelude.{◌≡◌, ⊤, ℕ, Bool, true, if◌then◌else◌, List, [], ◌++◌, Option, codes}
use Rattle.std.specs.Str.{is_utf8}
use Rattle.lx_rules.specs.declared.rule.Kind.{Kind}
use Rattle.lx_tables.specs.Model.{Table}
use Rattle.lx_scan.specs.declared.item.Item.{Item}
use Rattle.lx_piece.specs.Plans.{Planned}
use Rattle.lx_line.specs.Fields.{rest_with}
use Rattle.lx_line.specs.Prefixes.{class_and_kind}
use Rattle.lx_line.specs.Styles.{Style}
use Rattle.lx_forms.specs.declared.format.Format.{Format}
use Rattle.lx_forms.specs.declared.format.Format.TheVariants.{Lines, Json}
use Rattle.lx_forms.specs.Forms.{PlainForm, passes}
use Rattle.lx_forms.specs.FormListings.{cut_line_in, line_in, line_with_by}
use Rattle.lx_forms.specs.JsonFields.{json_rest}
use Rattle.lx_forms.specs.JsonParts.{json_prefix}
use Rattle.lx_forms.specs.TextLines.{file_text}

-- the line of an item, if it is printed
abbrev pub item_line : PlainForm → Planned → ℕ → Item → List ℕ
item_line form plan file item = if passes form item then line_in form plan file item else []

-- the same of an item with this text
abbrev pub item_line_with : PlainForm → Table → ℕ → Item → List ℕ → List ℕ
item_line_with form table file item text = if passes form item then line_with_by form.format form table file item text else []

abbrev pub style_of : PlainForm → Style
style_of form = record { line = item_line form; line_with = item_line_with form; cut_line = cut_line_in form }

-- the part of a line of fields before the number of the line
abbrev pub text_prefix : PlainForm → Planned → ℕ → Option Kind → List ℕ
text_prefix form plan file kind = file_text form file ++ codes " " ++ class_and_kind plan kind

-- the part of a line before the number of the line
abbrev pub prefix_by : Format → PlainForm → Planned → ℕ → Option Kind → List ℕ
prefix_by Lines form plan file kind = text_prefix form plan file kind
prefix_by Json form plan file kind = json_prefix form plan file kind

abbrev pub prefix_in : PlainForm → Planned → ℕ → Option Kind → List ℕ
prefix_in form plan file kind = prefix_by form.format form plan file kind

-- The texts after which the rest of a line can be placed. In JSON a text that is printed has to be UTF-8 (RFC 3629).
abbrev pub PlacesBy : Format → Bool → List ℕ → Type 0
PlacesBy Lines printed text = ⊤
PlacesBy Json printed text = printed ≡ true → is_utf8 text ≡ true

abbrev pub PlacesIn : PlainForm → List ℕ → Type 0
PlacesIn form text = PlacesBy form.format form.text text

-- the part of a line after its prefix, by line, start and length of an item, and its text
abbrev pub rest_by : Format → Bool → ℕ → ℕ → ℕ → List ℕ → List ℕ
rest_by Lines printed line start len text = rest_with printed line start len text
rest_by Json printed line start len text = json_rest printed line start len text

abbrev pub rest_in : PlainForm → ℕ → ℕ → ℕ → List ℕ → List ℕ
rest_in form line start len text = rest_by form.format form.text line start len text
