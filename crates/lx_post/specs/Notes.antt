-- Notes that workers send to a post: pieces, and at last an end.
use Rattle.std.specs.Prelude.{◌≡◌, ℕ, ◌==◌, ◌||◌, Bool, true, false, List, [], ◌∷◌, Option, Some, None, filter}
use Rattle.std.specs.Option.{option_or}
use Rattle.lx_piece.specs.declared.piece.Piece.{Piece}
use Rattle.lx_piece.specs.Plans.{Planned}
use Rattle.lx_piece.specs.Pieces.{Making}
use Rattle.lx_piece.specs.Arrivals.{IsHonestBy}
use Rattle.lx_post.specs.declared.note.Note.{Note}
use Rattle.lx_post.specs.declared.note.Note.TheVariants.{Piece as note_piece, End as note_end}
use Rattle.lx_post.specs.declared.note.WorkerFault.{WorkerFault}

-- the worker that sends it
abbrev pub worker_of : {C : Type 0} → Note C → ℕ
worker_of (note_piece worker piece) = worker
worker_of (note_end worker files fault) = worker

abbrev pub is_end : {C : Type 0} → Note C → Bool
is_end (note_piece worker piece) = false
is_end (note_end worker files fault) = true

-- a piece of the plan's run and one of its files is the plan's piece; an end has no fact about the plan
abbrev pub IsHonestNote : {C : Type 0} → Making C → Planned → Note C → Type 0
IsHonestNote made plan (note_piece worker piece) = IsHonestBy made plan piece
IsHonestNote made plan (note_end worker files fault) = Unit {0}

abbrev pub AreHonestNotes : {C : Type 0} → Making C → Planned → List (Note C) → Type 0
AreHonestNotes made plan [] = Unit {0}
AreHonestNotes made plan (n ∷ notes) = IsHonestNote made plan n × AreHonestNotes made plan notes

-- the notes of one worker, in order
abbrev pub notes_of : {C : Type 0} → ℕ → List (Note C) → List (Note C)
notes_of worker notes = filter (λ n. worker_of n == worker) notes

-- an end is among them
abbrev pub has_end : {C : Type 0} → List (Note C) → Bool
has_end [] = false
has_end (n ∷ notes) = is_end n || has_end notes

-- nothing follows an end
abbrev pub NothingFollowsEnd : {C : Type 0} → List (Note C) → Type 0
NothingFollowsEnd [] = Unit {0}
NothingFollowsEnd (n ∷ notes) = (is_end n ≡ true → notes ≡ []) × NothingFollowsEnd notes

-- the pieces among them, in order
abbrev pub pieces_among : {C : Type 0} → List (Note C) → List (Piece C)
pieces_among [] = []
pieces_among (note_piece worker piece ∷ notes) = piece ∷ pieces_among notes
pieces_among (note_end worker files fault ∷ notes) = pieces_among notes

-- the first fault that an end among them names
abbrev pub first_fault : {C : Type 0} → List (Note C) → Option WorkerFault
first_fault [] = None
first_fault (note_piece worker piece ∷ notes) = first_fault notes
first_fault (note_end worker files None ∷ notes) = first_fault notes
first_fault (note_end worker files (Some fault) ∷ notes) = Some fault

-- the first fault, once this note has come after those that named this one
abbrev pub fault_with : {C : Type 0} → Option WorkerFault → Note C → Option WorkerFault
fault_with fault (note_piece worker piece) = fault
fault_with fault (note_end worker files named) = option_or fault named
