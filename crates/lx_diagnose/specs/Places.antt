-- Lines of a text, counted from 1, and places in them.
use Rattle.std.specs.Prelude.{ℕ, zero, suc, ◌≡◌, ◌+◌, ◌-◌, ◌<◌, ◌≤◌, Bool, not, nat_eq, List, length, drop, take, min}
use Rattle.std.specs.List.{prefix_len, count_by}
use Rattle.lx_diagnose.specs.declared.places.TextPlace.{TextPlace}

abbrev pub is_no_newline : ℕ → Bool
is_no_newline c = not (nat_eq c 10)

abbrev pub is_newline : ℕ → Bool
is_newline c = nat_eq c 10

abbrev pub newlines : List ℕ → ℕ
newlines text = count_by is_newline text

-- the text after its first newline
abbrev pub behind_line : List ℕ → List ℕ
behind_line text = drop (prefix_len is_no_newline text + 1) text

-- the text after n lines
unfoldable pub behind_lines : ℕ → List ℕ → List ℕ
behind_lines zero text = text
behind_lines (suc n) text = behind_lines n (behind_line text)

-- the number of bytes of line n; 0 if the text has no such line
abbrev pub line_len : ℕ → List ℕ → ℕ
line_len n text = prefix_len is_no_newline (behind_lines (n - 1) text)

-- the start of line n
abbrev pub line_start : ℕ → List ℕ → ℕ
line_start n text = length text - length (behind_lines (n - 1) text)

-- A place whose column is known is in its line, and its column is that of its first byte, counted from 1. The position directly after the last byte
-- is still in the line.
pub record IsInText (text : List ℕ) (place : TextPlace) : Type 0 where
  pub within : place.column + place.width ≤ line_len place.line text + 1
  pub column : 0 < place.column → line_start place.line text + place.column ≡ place.start + 1

-- The place of a part: its line is that of its first byte, and the part is cut off at the line's end. Lines from 4294967295 on are counted as this one.
pub record IsPlaceOf (text : List ℕ) (from len : ℕ) (place : TextPlace) : Type 0 where
  pub start : place.start ≡ from
  pub line : place.line ≡ min (newlines (take from text) + 1) 4294967295
  pub known : from < length text → newlines (take from text) < 4294967295 → 0 < place.column
  pub width : 0 < place.column → place.width ≡ min len (line_len place.line text + 1 - place.column)
