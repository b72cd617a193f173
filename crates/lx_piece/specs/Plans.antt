-- A plan as plain values: its files, its tables, and the items of its files.
use Rattle.std.specs.Prelude.{ℕ, ◌<◌, ◌≤◌, All, Bool, false, List, [], length, slice_index_or}
use Rattle.lx_tables.specs.Model.{Table, IsTable, kind_at}
use Rattle.lx_scan.specs.declared.item.Item.{Item}
use Rattle.lx_scan.specs.ItemParts.{IsItemOf}
use Rattle.lx_scan.specs.Items as scan
use Rattle.lx_piece.specs.declared.input.Input.{Input}

-- the most files that a plan has
abbrev pub max_files : ℕ
max_files = 65536

-- the most items that a piece has
abbrev pub max_items : ℕ
max_items = 4096

-- the most workers that scan its files
abbrev pub max_workers : ℕ
max_workers = 8

-- the bytes of a file that were read, and true if its reading failed after them
pub record PlainInput : Type 0 where
  pub bytes : List ℕ
  pub cut : Bool

-- an input without its place in memory
abbrev pub input_view : Input → PlainInput
input_view input = record { bytes = input.bytes.items; cut = input.cut }

-- A plan as contracts see it: the number of its pieces' run, the number of items of a piece, the tables, and the files.
pub record Planned : Type 0 where
  pub run : ℕ
  pub per_piece : ℕ
  pub table : Table
  pub inputs : List PlainInput

-- the number of its files
abbrev pub files_of : Planned → ℕ
files_of plan = length plan.inputs

-- a file; an empty one if there is none
abbrev pub input_of : Planned → ℕ → PlainInput
input_of plan file = slice_index_or plan.inputs file (record { bytes = []; cut = false })

-- the bytes of a file
abbrev pub bytes_of : Planned → ℕ → List ℕ
bytes_of plan file = (input_of plan file).bytes

-- true if its reading failed after them
abbrev pub is_cut : Planned → ℕ → Bool
is_cut plan file = (input_of plan file).cut

-- the names of kinds
abbrev pub kinds_of : Planned → List (List ℕ)
kinds_of plan = plan.table.kinds

-- the name of a kind
abbrev pub kind_of : Planned → ℕ → List ℕ
kind_of plan number = kind_at plan.table number

-- the items of a file: those that the tables give for its bytes
abbrev pub items_of : Planned → ℕ → List Item
items_of plan file = scan.items_of plan.table (bytes_of plan file)

-- the facts about every plan
pub record IsPlan (plan : Planned) : Type 0 where
  pub some_files : 0 < files_of plan
  pub few_files : files_of plan ≤ max_files
  pub some_items : 0 < plan.per_piece
  pub few_items : plan.per_piece ≤ max_items
  pub table : IsTable plan.table
  pub items : (file : ℕ) → All (IsItemOf (kinds_of plan) (bytes_of plan file)) (items_of plan file)
