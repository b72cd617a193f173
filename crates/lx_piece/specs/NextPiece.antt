-- The piece of a file that a reader takes next.
use Rattle.std.specs.Prelude.{ℕ, ◌≡◌, List, slice_index}
use Rattle.lx_piece.specs.declared.piece.Piece.{Piece}
use Rattle.lx_piece.specs.Plans.{Planned}
use Rattle.lx_piece.specs.Pieces.{ItemPiece, Making, bare, IsPieceBy, TakesInOrder}

-- p is the next piece of its file for a reader with these counts, which took the file's first pieces in order
pub record IsNextPieceBy {C : Type 0} (made : Making C) (plan : Planned) (counts : List ℕ) (p : Piece C) : Type 0 where
  pub planned : IsPieceBy made plan p
  pub number : p.number ≡ slice_index counts p.file
  pub taken : TakesInOrder plan p.file (slice_index counts p.file)

abbrev pub IsNextPiece : Planned → List ℕ → ItemPiece → Type 0
IsNextPiece plan counts p = IsNextPieceBy bare plan counts p
