-- The turn of a piece, and the one after it.
use Rattle.std.proofs.Common.{ℕ, ◌≡◌, ◌+◌, ◌<◌, if◌then◌else◌, ap, arith}
use Rattle.std.proofs.lemmas.Bool.{eq-eqb, ne_eqb}
use Rattle.lx_piece.specs.Plans.{Planned}
use Rattle.lx_piece.specs.Pieces.{pieces_of}
use Rattle.lx_piece.specs.Turns.{turn_at}

-- if pieces of the file are left, it is the turn of the next one
pub turn_left : (plan : Planned) (file count : ℕ) → count < pieces_of plan file → turn_at plan file count ≡ record { file = file; number = count }
turn_left plan file count l = ap (λ b. if b then record { file = file + 1; number = 0 } else record { file = file; number = count }) (ne_eqb count (pieces_of plan file) (λ e. absurd (omega arith)))

-- and else that of the first one of the file after it
pub turn_over : (plan : Planned) (file count : ℕ) → count ≡ pieces_of plan file → turn_at plan file count ≡ record { file = file + 1; number = 0 }
turn_over plan file count e = ap (λ b. if b then record { file = file + 1; number = 0 } else record { file = file; number = count }) (eq-eqb count (pieces_of plan file) e)
