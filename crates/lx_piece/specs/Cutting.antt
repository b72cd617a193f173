-- The progress of a cutter.
use Rattle.std.specs.Prelude.{◌≡◌, ℕ, ◌*◌, ◌<◌, ◌≤◌, List, [], ◌++◌, Option, None, drop}
use Rattle.lx_tables.specs.Model.{Table}
use Rattle.lx_scan.specs.Cursors.{IsInText, items_left, listed}
use Rattle.lx_scan.specs.declared.cursor.Cursor.{Cursor}
use Rattle.lx_scan.specs.declared.item.Item.{Item}
use Rattle.lx_piece.specs.Plans.{Planned, bytes_of, files_of, items_of}
use Rattle.lx_piece.specs.Pieces.{pieces_of}

-- A cutter as contracts see it: its plan, its file, the number of its next piece, and the progress of scanning. The file is scanned up to the item
-- ahead; the cursor is after it.
pub record Cutting : Type 0 where
  pub plan : Planned
  pub file : ℕ
  pub next : ℕ
  pub cursor : Cursor
  pub ahead : Option Item

-- the item ahead, and those after the cursor
abbrev pub items_ahead : Table → List ℕ → Option Item → Cursor → List Item
items_ahead table text ahead cursor = listed ahead ++ items_left table text cursor

-- It cuts a file of this plan: ahead are the items of its next piece and of those after it. After the first piece, no item is left if none is ahead.
pub record IsCutterOf (plan : Planned) (cutter : Cutting) : Type 0 where
  pub plan_is : cutter.plan ≡ plan
  pub file : cutter.file < files_of plan
  pub next : cutter.next ≤ pieces_of plan cutter.file
  pub in_text : IsInText plan.table (bytes_of plan cutter.file) cutter.cursor
  pub items : items_ahead plan.table (bytes_of plan cutter.file) cutter.ahead cutter.cursor ≡ drop (cutter.next * plan.per_piece) (items_of plan cutter.file)
  pub end : 0 < cutter.next → cutter.ahead ≡ None → drop (cutter.next * plan.per_piece) (items_of plan cutter.file) ≡ []
