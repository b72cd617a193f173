-- Styles of lines.
use Rattle.std.specs.Prelude.{◌≡◌, ℕ, ◌⊎◌, Bool, true, false, List, [], ◌∷◌, ◌++◌, Option}
use Rattle.std.specs.List.{flat_map}
use Rattle.lx_rules.specs.declared.rule.Kind.{Kind}
use Rattle.lx_tables.specs.Model.{Table}
use Rattle.lx_scan.specs.ItemParts.{kind_of_item, len_of, line_of as line_number, start_of, text_at, text_of}
use Rattle.lx_scan.specs.declared.item.Item.{Item}
use Rattle.lx_piece.specs.Plans.{Planned, bytes_of}
use Rattle.lx_line.specs.Lines.{line_of, line_with, cut_line as plain_cut_line}

-- The line of an item of a file, or nothing for an item without one; the same of an item with this text, by the tables; and the line of a file whose
-- reading failed.
pub record Style : Type 0 where
  pub line : Planned → ℕ → Item → List ℕ
  pub line_with : Table → ℕ → Item → List ℕ → List ℕ
  pub cut_line : ℕ → List ℕ

-- the style of a listing without options
abbrev pub plain : Style
plain = record { line = line_of; line_with = line_with; cut_line = plain_cut_line }

-- the lines of items of a file, in order
abbrev pub lines_by : Style → Planned → ℕ → List Item → List ℕ
lines_by style plan file items = flat_map (style.line plan file) items

-- the lines of items whose texts are in these bytes, which begin at this place of the file
abbrev pub lines_at : Style → Table → ℕ → List ℕ → ℕ → List Item → List ℕ
lines_at style table file bytes base items = flat_map (λ item. style.line_with table file item (text_at bytes base item)) items

-- Whole lines, if the bytes begin at the start of a line and belong to a listing: a line has its only line feed at the end.
abbrev pub AreWhole : List ℕ → Type 0
AreWhole bytes = (bytes ≡ []) ⊎ ((front : List ℕ) × (bytes ≡ front ++ 10 ∷ []))

-- each line ends with a line feed
pub record HasWholeLines (style : Style) : Type 0 where
  pub line : (plan : Planned) (file : ℕ) (item : Item) → AreWhole (style.line plan file item)
  pub line_with : (table : Table) (file : ℕ) (item : Item) (text : List ℕ) → AreWhole (style.line_with table file item text)
  pub cut_line : (file : ℕ) → AreWhole (style.cut_line file)

-- The line of an item needs only the tables, the number of the file and the item's text, of all that a plan has.
pub record NeedsText (style : Style) : Type 0 where
  pub line : (plan : Planned) (file : ℕ) (item : Item) → style.line plan file item ≡ style.line_with plan.table file item (text_of (bytes_of plan file) item)

-- The line of an item is its prefix and the rest, if it has a line and its text can be placed. That of an item without one is nothing.
pub record HasParts (prefix : Planned → ℕ → Option Kind → List ℕ) (rest : ℕ → ℕ → ℕ → List ℕ → List ℕ) (lists : Item → Bool) (places : List ℕ → Type 0) (style : Style) : Type 0 where
  pub parts : (plan : Planned) (file : ℕ) (item : Item) (text : List ℕ) → lists item ≡ true → places text → prefix plan file (kind_of_item item) ++ rest (line_number item) (start_of item) (len_of item) text ≡ style.line_with plan.table file item text
  pub nothing : (plan : Planned) (file : ℕ) (item : Item) (text : List ℕ) → lists item ≡ false → style.line_with plan.table file item text ≡ []

-- the purpose of a draft: a style and a plan
pub record Drafted (L : Type 0) : Type 0 where
  pub style : L
  pub plan : Planned
