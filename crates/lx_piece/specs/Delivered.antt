-- The pieces that a collector holds of a plan, and the numbers of pieces delivered of each file.
use Rattle.std.specs.Prelude.{ℕ, ◌≡◌, ◌≤◌, List, Some, length, slice_index, slice_get}
use Rattle.lx_piece.specs.declared.piece.Piece.{Piece}
use Rattle.lx_piece.specs.Plans.{Planned, files_of}
use Rattle.lx_piece.specs.Pieces.{Making, IsPieceBy}
use Rattle.lx_piece.specs.Kept.{Buffered, held_at}

-- each held piece is the plan's piece of its file and number
pub record HoldsPlanned {C : Type 0} (made : Making C) (plan : Planned) (buffers : List (Buffered C)) : Type 0 where
  pub files : length buffers ≡ files_of plan
  pub each : (file : ℕ) (buffer : Buffered C) → slice_get buffers file ≡ Some buffer → (n : ℕ) (p : Piece C) → held_at buffer n ≡ Some p → IsPieceBy made plan p × (p.file ≡ file) × (p.number ≡ n)

-- no count is above another list's
pub record AreAtMost (counts others : List ℕ) : Type 0 where
  pub files : length counts ≡ length others
  pub each : (file : ℕ) → slice_index counts file ≤ slice_index others file
