-- The waiting pieces of later files, after the first file that isn't closed.
use Rattle.std.specs.Prelude.{ℕ, ◌≡◌, ◌+◌, ◌<◌, ◌≤◌, List, [], length, slice_index, slice_index_or, slice_set, map}
use Rattle.std.specs.declared.alloc.Global.{Global}
use Rattle.std.specs.declared.collections.VecDeque.{VecDeque}
use Rattle.lx_piece.specs.declared.piece.Piece.{Piece}
use Rattle.lx_piece.specs.Plans.{Planned, files_of}
use Rattle.lx_piece.specs.Pieces.{Making, pieces_by, pieces_of, top_number}
use Rattle.lx_piece.specs.Turns.{Turn, IsFirstOpen}

-- the pieces in the queue of each file
abbrev pub queued : {C : Type 0} → List (VecDeque (Piece C) Global) → List (List (Piece C))
queued queues = map (λ queue. queue.items) queues

-- the pieces of a file that wait
abbrev pub waiting_of : {C : Type 0} → List (List (Piece C)) → ℕ → List (Piece C)
waiting_of waiting file = slice_index_or waiting file []

-- these are the first pieces of a file
pub record AreFirstPieces {C : Type 0} (made : Making C) (plan : Planned) (file : ℕ) (pieces : List (Piece C)) : Type 0 where
  pub within : length pieces ≤ pieces_of plan file
  pub countable : length pieces ≤ top_number
  pub same : pieces ≡ pieces_by made plan file (length pieces)

-- the waiting pieces of each file from one on are its first ones
pub record Waits {C : Type 0} (made : Making C) (plan : Planned) (from : ℕ) (waiting : List (List (Piece C))) : Type 0 where
  pub lists : length waiting ≡ files_of plan
  pub each : (file : ℕ) → from ≤ file → file < files_of plan → AreFirstPieces made plan file (waiting_of waiting file)

-- The waiting pieces were taken of the files from one on, up to the first that they don't close. That file is next; its waiting pieces were taken,
-- too.
pub record TookWaiting {C : Type 0} (plan : Planned) (from : ℕ) (old : List (List (Piece C))) (next : ℕ) (new : List (List (Piece C))) (turn : Turn) : Type 0 where
  pub rises : from ≤ next
  pub within : next ≤ files_of plan
  pub closed : (file : ℕ) → from ≤ file → file < next → length (waiting_of old file) ≡ pieces_of plan file
  pub not_closed : next < files_of plan → length (waiting_of old next) < pieces_of plan next
  pub lists : length new ≡ length old
  pub others : (file : ℕ) → next < file → waiting_of new file ≡ waiting_of old file
  pub turn_is : turn ≡ record { file = next; number = length (waiting_of old next) }

-- After the first file that isn't closed, the pieces that came of each file wait. It is the turn of that first file's next piece.
pub record KeepsUp {C : Type 0} (made : Making C) (plan : Planned) (turn : Turn) (counts : List ℕ) (first : ℕ) (waiting : List (List (Piece C))) : Type 0 where
  pub first_open : IsFirstOpen plan counts first
  pub turn_is : turn ≡ record { file = first; number = slice_index counts first }
  pub waits : Waits made plan (first + 1) waiting
  pub came : (file : ℕ) → first < file → file < files_of plan → length (waiting_of waiting file) ≡ slice_index counts file

-- the counts once a piece of this file was taken
abbrev pub counted : List ℕ → ℕ → List ℕ
counted counts file = slice_set counts file (slice_index counts file + 1)
