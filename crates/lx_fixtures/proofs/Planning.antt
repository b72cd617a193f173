use Rattle.std.proofs.Common.{ℕ, ◌≡◌, ◌≤◌, List, sym, ◌∙◌, ap, subst, arith, replicate}
use Rattle.std.specs.Prelude.{slice_index}
use Rattle.std.proofs.lemmas.List.{get_or-replicate}
use Rattle.lx_piece.specs.Plans.{Planned, IsPlan, files_of}
use Rattle.lx_piece.specs.Pieces.{ItemPiece, IsPieceOf, TakesInOrder, piece_at, pieces_of}
use Rattle.lx_piece.specs.PieceLaws.{takes_in_order}
use Rattle.lx_piece.specs.NextPiece.{IsNextPiece}

-- the first piece of a file is the next one for a reader that took nothing
pub first_next : (plan : Planned) (counts : List ℕ) (file : ℕ) (p : ItemPiece) → IsPlan plan → IsPieceOf plan p → p ≡ piece_at plan file 0 → counts ≡ replicate (files_of plan) 0 → IsNextPiece plan counts p
first_next plan counts file p sound is first e =
    let none : slice_index counts p.file ≡ 0 = ap (λ (ns : List ℕ). slice_index ns p.file) e ∙ get_or-replicate (files_of plan) p.file 0 0 is.file in
    let few : 0 ≤ pieces_of plan p.file = omega arith in
    record {
      planned = is;
      number = ap (λ (q : ItemPiece). q.number) first ∙ sym none;
      taken = subst (λ (n : ℕ). TakesInOrder plan p.file n) (sym none) (takes_in_order plan p.file 0 sound.some_items few);
    }
