-- The contents of a listing's piece: its items, or their lines.
use Rattle.std.specs.Prelude.{ℕ, ◌≡◌, List, All}
use Rattle.lx_scan.specs.declared.item.Item.{Item}
use Rattle.lx_scan.specs.ItemParts.{IsItemOf}
use Rattle.lx_piece.specs.Plans.{Planned, bytes_of, kinds_of}
use Rattle.lx_listing.specs.declared.shown.ShownForm.{ShownForm}
use Rattle.lx_listing.specs.declared.shown.ShownForm.TheVariants.{Bare, Given, Lines}
use Rattle.lx_line.specs.Lines.{lines_of}

-- contracts see the items with their plan, and not if they are kept as lines
pub record ShownItems : Type 0 where
  pub plan : Planned
  pub file : ℕ
  pub items : List Item

abbrev pub shown : Planned → ℕ → List Item → ShownItems
shown plan file items = record { plan = plan; file = file; items = items }

-- the items of a form
abbrev pub items_in : ShownForm → List Item
items_in (Bare list) = list
items_in (Given list) = list.items
items_in (Lines block items) = items.value

-- the form of these items: they themselves, or their lines, one after the other
abbrev pub IsFormOf : Planned → ℕ → List Item → ShownForm → Type 0
IsFormOf plan file items (Bare list) = (list ≡ items) × All (IsItemOf (kinds_of plan) (bytes_of plan file)) items
IsFormOf plan file items (Given list) = (list.items ≡ items) × All (IsItemOf (kinds_of plan) (bytes_of plan file)) items
IsFormOf plan file items (Lines block listed) = block.items ≡ lines_of plan file items
