-- The pieces of a plan's files.
use Rattle.std.specs.Prelude.{ℕ, zero, suc, ◌≡◌, ◌+◌, ◌*◌, ◌<◌, ◌==◌, ◌↔◌, Bool, true, false, if◌then◌else◌, List, [], ◌∷◌, ◌++◌, length, take, drop, max}
use Rattle.std.specs.Int.{div_ceil}
use Rattle.std.specs.List.{flat_map, list_any}
use Rattle.lx_scan.specs.declared.item.Item.{Item}
use Rattle.lx_piece.specs.declared.piece.Mark.{Mark}
use Rattle.lx_piece.specs.declared.piece.Mark.TheVariants.{More, Whole, Cut}
use Rattle.lx_piece.specs.declared.piece.Piece.{Piece}
use Rattle.lx_piece.specs.Plans.{Planned, files_of, is_cut, items_of}

-- true if a mark is that of a last piece
abbrev pub is_closing_mark : Mark → Bool
is_closing_mark More = false
is_closing_mark Whole = true
is_closing_mark Cut = true

-- true if it is that of the last piece of a file whose reading failed
abbrev pub is_cut_mark : Mark → Bool
is_cut_mark More = false
is_cut_mark Whole = false
is_cut_mark Cut = true

-- true if it is marked as the last piece of its file
abbrev pub is_closing : {C : Type 0} → Piece C → Bool
is_closing piece = is_closing_mark piece.mark

-- true if it is marked as the last piece of a file whose reading failed
abbrev pub is_cut_short : {C : Type 0} → Piece C → Bool
is_cut_short piece = is_cut_mark piece.mark

-- the greatest number of 64 bits, which no piece of a plan has
abbrev pub top_number : ℕ
top_number = 18446744073709551615

-- the number of pieces that a list of items makes: at least one
abbrev pub piece_count : ℕ → List Item → ℕ
piece_count per_piece items = max 1 (div_ceil (length items) per_piece)

-- the number of pieces of a file
abbrev pub pieces_of : Planned → ℕ → ℕ
pieces_of plan file = piece_count plan.per_piece (items_of plan file)

-- the items of the piece with this number
abbrev pub part : ℕ → List Item → ℕ → List Item
part per_piece items number = take per_piece (drop (number * per_piece) items)

-- the mark of the piece with this number: Cut for the last one if its file's reading failed, Whole for the last one otherwise, More before it
abbrev pub mark_of : Planned → ℕ → ℕ → Mark
mark_of plan file number = if number + 1 == pieces_of plan file then (if is_cut plan file then Cut else Whole) else More

-- the contents made of a file's items, for a piece to carry
abbrev pub Making : Type 0 → Type 0
Making C = Planned → ℕ → List Item → C

-- the items as they are
abbrev pub bare : Making (List Item)
bare plan file items = items

-- the piece of a file with this number; it carries the contents made of its items
abbrev pub piece_by : {C : Type 0} → Making C → Planned → ℕ → ℕ → Piece C
piece_by made plan file number =
    record {
      run = plan.run;
      file = file;
      number = number;
      mark = mark_of plan file number;
      items = made plan file (part plan.per_piece (items_of plan file) number);
    }

-- p is the plan's piece of its file and number
pub record IsPieceBy {C : Type 0} (made : Making C) (plan : Planned) (p : Piece C) : Type 0 where
  pub file : p.file < files_of plan
  pub number : p.number < pieces_of plan p.file
  pub countable : p.number < top_number
  pub whole : p ≡ piece_by made plan p.file p.number

-- a piece that carries its items
abbrev pub ItemPiece : Type 0
ItemPiece = Piece (List Item)

abbrev pub piece_at : Planned → ℕ → ℕ → ItemPiece
piece_at plan file number = piece_by bare plan file number

abbrev pub IsPieceOf : Planned → ItemPiece → Type 0
IsPieceOf plan p = IsPieceBy bare plan p

-- the pieces of a file from 0 on, this many
abbrev pub pieces_by : {C : Type 0} → Making C → Planned → ℕ → ℕ → List (Piece C)
pieces_by made plan file zero = []
pieces_by made plan file (suc count) = pieces_by made plan file count ++ piece_by made plan file count ∷ []

abbrev pub pieces_to : Planned → ℕ → ℕ → List ItemPiece
pieces_to plan file count = pieces_by bare plan file count

-- the items of pieces, one piece after the other
abbrev pub contents : List ItemPiece → List Item
contents pieces = flat_map (λ (piece : ItemPiece). piece.items) pieces

-- the first begins the second
abbrev pub IsPrefix : {X : Type 0} → List X → List X → Type 0
IsPrefix {X} xs ys = (rest : List X) × (xs ++ rest ≡ ys)

-- The first pieces of a file take a prefix of its items. The closing piece is among them if and only if they are all of the file's pieces. Then they
-- take all of the items, and one is marked Cut if and only if the file's reading failed.
pub record TakesInOrder (plan : Planned) (file count : ℕ) : Type 0 where
  pub prefix : IsPrefix (contents (pieces_to plan file count)) (items_of plan file)
  pub closed : (list_any is_closing (pieces_to plan file count) ≡ true) ↔ (count ≡ pieces_of plan file)
  pub whole : list_any is_closing (pieces_to plan file count) ≡ true → contents (pieces_to plan file count) ≡ items_of plan file
  pub cut : list_any is_closing (pieces_to plan file count) ≡ true → list_any is_cut_short (pieces_to plan file count) ≡ is_cut plan file
