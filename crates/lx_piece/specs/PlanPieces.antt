-- The pieces of a plan, cut one file after the other.
use Rattle.std.specs.Prelude.{ℕ, zero, suc, ◌≡◌, Bool, List, [], ◌++◌, refl}
use Rattle.std.proofs.Common.{sym, ◌∙◌, ap, append_assoc, append-nil}
use Rattle.lx_piece.specs.declared.piece.Piece.{Piece}
use Rattle.lx_piece.specs.Cutting.{Cutting}
use Rattle.lx_piece.specs.Plans.{Planned}
use Rattle.lx_piece.specs.Pieces.{Making, pieces_by, pieces_of}

-- the pieces of the files below this one, in order
abbrev pub pieces_below : {C : Type 0} → Making C → Planned → ℕ → List (Piece C)
pieces_below made plan zero = []
pieces_below made plan (suc file) = pieces_below made plan file ++ pieces_by made plan file (pieces_of plan file)

-- the pieces that come before the next one of a cutter
abbrev pub pieces_before : {C : Type 0} → Making C → Planned → Cutting → List (Piece C)
pieces_before made plan cutter = pieces_below made plan cutter.file ++ pieces_by made plan cutter.file cutter.next

-- the pieces of a plan that were cut, and true if an allocation failed for one
pub record CutSoFar (C : Type 0) : Type 0 where
  pub plan : Planned
  pub cut : List (Piece C)
  pub refused : Bool

-- the pieces cut between two states
abbrev pub Cuts : {C : Type 0} → CutSoFar C → List (Piece C) → CutSoFar C → Type 0
Cuts s came t = (t.plan ≡ s.plan) × (t.cut ≡ s.cut ++ came)

pub cuts_nothing : {C : Type 0} (s : CutSoFar C) → Cuts s [] s
cuts_nothing s = (refl, sym (append-nil s.cut))

pub cuts_on : {C : Type 0} (s t u : CutSoFar C) (xs ys : List (Piece C)) → Cuts s xs t → Cuts t ys u → Cuts s (xs ++ ys) u
cuts_on s t u xs ys f h = (h.0 ∙ f.0, h.1 ∙ (ap (λ cut. cut ++ ys) f.1 ∙ append_assoc s.cut xs ys))
