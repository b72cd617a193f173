-- The fields of a line in JSON that are placed.
use Rattle.std.specs.Prelude.{ℕ, Bool, if◌then◌else◌, List, [], ◌++◌, codes, decimal}
use Rattle.std.specs.List.{flat_map}
use Rattle.lx_forms.specs.JsonLines.{string_escaped}

-- a text that is UTF-8, if texts are printed
abbrev pub string_member : Bool → List ℕ → List ℕ
string_member printed text = if printed then codes ",\"text\":\"" ++ flat_map string_escaped text ++ codes "\"" else []

-- the numbers after the prefix
abbrev pub numbers_text : ℕ → ℕ → ℕ → List ℕ
numbers_text line start len = decimal line ++ codes ",\"start\":" ++ decimal start ++ codes ",\"len\":" ++ decimal len

-- the part of a line after its prefix
abbrev pub json_rest : Bool → ℕ → ℕ → ℕ → List ℕ → List ℕ
json_rest printed line start len text = numbers_text line start len ++ (string_member printed text ++ codes "}\n")
