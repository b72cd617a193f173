-- The parts of a line in JSON that are made ready, and those that aren't.
use Rattle.std.specs.Prelude.{ℕ, List, ◌++◌, Option, Some, None, codes}
use Rattle.lx_rules.specs.declared.rule.Kind.{Kind}
use Rattle.lx_scan.specs.declared.item.Item.{Item}
use Rattle.lx_scan.specs.ItemParts.{line_of as line_number, start_of, len_of}
use Rattle.lx_piece.specs.Plans.{Planned}
use Rattle.lx_forms.specs.Forms.{PlainForm}
use Rattle.lx_forms.specs.JsonFields.{numbers_text}
use Rattle.lx_forms.specs.JsonLines.{file_members, kind_value, text_member}

-- the kind of a token, or the mark of an Echo
abbrev pub sort_text : Planned → Option Kind → List ℕ
sort_text plan None = codes ",\"echo\":true"
sort_text plan (Some kind) = codes ",\"kind\":" ++ kind_value plan kind

-- the part before the number of the line
abbrev pub json_prefix : PlainForm → Planned → ℕ → Option Kind → List ℕ
json_prefix form plan file kind = file_members form file ++ sort_text plan kind ++ codes ",\"line\":"

-- the part after the prefix of the line of an item with this text
abbrev pub rest_with : PlainForm → Item → List ℕ → List ℕ
rest_with form item text = numbers_text (line_number item) (start_of item) (len_of item) ++ text_member form text ++ codes "}\n"
