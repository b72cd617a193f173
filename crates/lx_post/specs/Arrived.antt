-- Laws of the notes that come by a post between one state and a later one.
use Rattle.std.specs.Prelude.{◌≡◌, List, [], ◌∷◌, ◌++◌, refl}
use Rattle.std.proofs.Common.{sym, ◌∙◌, ap, append_assoc, append-nil}
use Rattle.lx_piece.specs.declared.piece.Piece.{Piece}
use Rattle.lx_post.specs.declared.note.Note.{Note}
use Rattle.lx_post.specs.declared.note.Note.TheVariants.{Piece as note_piece, End as note_end}
use Rattle.lx_post.specs.Notes.{pieces_among}
use Rattle.lx_post.specs.Posted.{Taken, Arriving, CameBetween}

pub pieces_of_both : {C : Type 0} (xs ys : List (Note C)) → pieces_among (xs ++ ys) ≡ pieces_among xs ++ pieces_among ys
pieces_of_both [] ys = refl
pieces_of_both (note_piece worker piece ∷ xs) ys = ap (λ ps. piece ∷ ps) (pieces_of_both xs ys)
pieces_of_both (note_end worker files fault ∷ xs) ys = pieces_of_both xs ys

pub nothing_came : {C : Type 0} (s : Arriving C) → CameBetween s [] s
nothing_came s =
    record {
      notes = [];
      received = ap (λ ns. record s.pass { received = ns }) (sym (append-nil s.pass.received));
      since = sym (append-nil s.since);
      pieces = refl;
    }

pub came_on : {C : Type 0} (s t u : Arriving C) (xs ys : List (Piece C)) → CameBetween s xs t → CameBetween t ys u → CameBetween s (xs ++ ys) u
came_on s t u xs ys f g =
    record {
      notes = f.notes ++ g.notes;
      received =
          g.received
          ∙ ap (λ (pass : Taken _). record pass { received = pass.received ++ g.notes }) f.received
          ∙ ap (λ ns. record s.pass { received = ns }) (append_assoc s.pass.received f.notes g.notes);
      since = g.since ∙ ap (λ ns. ns ++ g.notes) f.since ∙ append_assoc s.since f.notes g.notes;
      pieces =
          ap (λ ps. ps ++ ys) f.pieces
          ∙ ap (λ ps. pieces_among f.notes ++ ps) g.pieces
          ∙ sym (pieces_of_both f.notes g.notes);
    }
