-- The pieces and faults received by a post, after one note more.
use Rattle.std.proofs.Common.{◌≡◌, ℕ, List, [], ◌∷◌, ◌++◌, Option, None, Some, length, drop, sym, refl, ap, ◌∙◌, append_assoc}
use Rattle.std.proofs.Math.Seq.{drop-append_seam}
use Rattle.lx_piece.specs.declared.piece.Piece.{Piece}
use Rattle.lx_post.specs.declared.note.Note.{Note}
use Rattle.lx_post.specs.declared.note.Note.TheVariants.{Piece as note_piece, End as note_end}
use Rattle.lx_post.specs.declared.note.WorkerFault.{WorkerFault}
use Rattle.lx_post.specs.Notes.{fault_with, first_fault, pieces_among}
use Rattle.lx_post.specs.Posted.{Arriving, CameBetween, with_arrival}
use Rattle.lx_post.specs.Arrived.{came_on}

-- the note is the last of those received since then
pub since_push : {C : Type 0} (before all : List (Note C)) (n : Note C) → all ≡ before ++ drop (length before) all → drop (length before) (all ++ n ∷ []) ≡ drop (length before) all ++ n ∷ []
since_push before all n is =
    ap (λ l. drop (length before) (l ++ n ∷ [])) is
    ∙ ap (drop (length before)) (append_assoc before (drop (length before) all) (n ∷ []))
    ∙ drop-append_seam before (drop (length before) all ++ n ∷ [])

pub before_since : {C : Type 0} (before all : List (Note C)) (n : Note C) → all ≡ before ++ drop (length before) all → all ++ n ∷ [] ≡ before ++ drop (length before) (all ++ n ∷ [])
before_since before all n is =
    ap (λ l. l ++ n ∷ []) is
    ∙ append_assoc before (drop (length before) all) (n ∷ [])
    ∙ ap (λ l. before ++ l) (sym (since_push before all n is))

-- the first fault with one note more
pub fault_push : {C : Type 0} (notes : List (Note C)) (n : Note C) → first_fault (notes ++ n ∷ []) ≡ fault_with (first_fault notes) n
fault_push [] (note_piece worker piece) = refl
fault_push [] (note_end worker files None) = refl
fault_push [] (note_end worker files (Some fault)) = refl
fault_push (note_piece w p ∷ notes) n = fault_push notes n
fault_push (note_end w f None ∷ notes) n = fault_push notes n
fault_push (note_end w f (Some first) ∷ notes) (note_piece worker piece) = refl
fault_push (note_end w f (Some first) ∷ notes) (note_end worker files fault) = refl

came_note : {C : Type 0} (s : Arriving C) (n : Note C) → CameBetween s (pieces_among (n ∷ [])) (with_arrival s n)
came_note s n = record { notes = n ∷ []; received = refl; since = refl; pieces = refl }

-- a piece is one arrival, and an end is none
pub came_piece : {C : Type 0} (s t : Arriving C) (worker : ℕ) (piece : Piece C) → CameBetween s [] t → CameBetween s (piece ∷ []) (with_arrival t (note_piece worker piece))
came_piece s t worker piece came = came_on s t (with_arrival t (note_piece worker piece)) [] (piece ∷ []) came (came_note t (note_piece worker piece))

pub came_end : {C : Type 0} (s t : Arriving C) (worker files : ℕ) (fault : Option WorkerFault) → CameBetween s [] t → CameBetween s [] (with_arrival t (note_end worker files fault))
came_end s t worker files fault came = came_on s t (with_arrival t (note_end worker files fault)) [] [] came (came_note t (note_end worker files fault))
