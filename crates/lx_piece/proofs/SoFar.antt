use Rattle.std.specs.Prelude.{◌≡◌, List}
use Rattle.lx_piece.specs.declared.piece.Piece.{Piece}
use Rattle.lx_piece.specs.declared.reply.Reply.{Reply}
use Rattle.lx_piece.specs.Plans.{Planned}
use Rattle.lx_piece.specs.Pieces.{Making}
use Rattle.lx_piece.specs.Arrivals.{shape_of, AreHonestBy, replies_of}
use Rattle.lx_piece.specs.Kept.{Kept, StandsFor}

-- in the midst of a run: the list that came, which the collector represents, and the replies to it
pub record SoFar {C : Type 0} (made : Making C) (plan : Planned) (leads : List (Piece C) → Type 0) (kept : Kept C) (replies : List Reply) : Type 0 where
  pub came : List (Piece C)
  pub led : leads came
  pub honest : AreHonestBy made plan came
  pub replied : replies ≡ replies_of (shape_of plan) came
  pub stands : StandsFor kept came
