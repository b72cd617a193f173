-- The pieces of a plan in its order: file after file, and of each file one after the other.
use Rattle.std.specs.Prelude.{ℕ, ◌≡◌, ◌≢◌, ◌+◌, ◌<◌, ◌≤◌, ◌==◌, if◌then◌else◌, List, length, slice_index}
use Rattle.lx_piece.specs.declared.piece.Piece.{Piece}
use Rattle.lx_piece.specs.Plans.{Planned, files_of}
use Rattle.lx_piece.specs.Pieces.{Making, IsPieceBy, pieces_of}

-- before a piece: its file, and its number
pub record Turn : Type 0 where
  pub file : ℕ
  pub number : ℕ

abbrev pub first_turn : Turn
first_turn = record { file = 0; number = 0 }

-- the turn after this number of pieces of a file: that of its next one, or after the last one that of the first of the file after it
abbrev pub turn_at : Planned → ℕ → ℕ → Turn
turn_at plan file count = if count == pieces_of plan file then record { file = file + 1; number = 0 } else record { file = file; number = count }

-- the turn after the piece of this turn
abbrev pub turn_after : Planned → Turn → Turn
turn_after plan turn = turn_at plan turn.file (turn.number + 1)

-- p is the piece of this turn
pub record HasTurn {C : Type 0} (made : Making C) (plan : Planned) (turn : Turn) (p : Piece C) : Type 0 where
  pub piece : IsPieceBy made plan p
  pub file : p.file ≡ turn.file
  pub number : p.number ≡ turn.number

-- By these counts of pieces taken, it is the first file that isn't closed, or the number of files if each is.
pub record IsFirstOpen (plan : Planned) (counts : List ℕ) (first : ℕ) : Type 0 where
  pub files : length counts ≡ files_of plan
  pub within : first ≤ files_of plan
  pub below : (file : ℕ) → file < first → slice_index counts file ≡ pieces_of plan file
  pub not_closed : first < files_of plan → slice_index counts first ≢ pieces_of plan first

-- by these counts of pieces taken it is this turn
pub record IsTurnBy (plan : Planned) (counts : List ℕ) (turn : Turn) : Type 0 where
  pub first : IsFirstOpen plan counts turn.file
  pub number : turn.number ≡ slice_index counts turn.file
