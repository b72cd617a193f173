-- A post, its passes and its arrivals as contracts see them.
use Rattle.std.specs.Prelude.{◌≡◌, ◌<◌, ℕ, true, false, List, [], ◌∷◌, ◌++◌, Any}
use Rattle.atomic_table.specs.Seated.{TableId}
use Rattle.lx_piece.specs.declared.piece.Piece.{Piece}
use Rattle.lx_piece.specs.Pieces.{Making}
use Rattle.lx_piece.specs.Plans.{Planned}
use Rattle.lx_post.specs.declared.note.Note.{Note}
use Rattle.lx_post.specs.Notes.{worker_of, IsHonestNote, notes_of, has_end, pieces_among}

-- a post: its queue, and its number of workers
pub record Posted : Type 0 where
  pub queue : TableId
  pub workers : ℕ

-- a pass that sends: its queue, its plan, its worker, and the notes sent, in order
pub record Sent (C : Type 0) : Type 0 where
  pub queue : TableId
  pub plan : Planned
  pub worker : ℕ
  pub sent : List (Note C)

-- a pass that takes: its queue, its plan, its number of workers, and the notes received, in order
pub record Taken (C : Type 0) : Type 0 where
  pub queue : TableId
  pub plan : Planned
  pub workers : ℕ
  pub received : List (Note C)

abbrev pub IsSendPassOf : {C : Type 0} → Posted → Sent C → Type 0
IsSendPassOf post pass = (pass.queue ≡ post.queue) × (pass.worker < post.workers)

abbrev pub IsTakePassOf : {C : Type 0} → Posted → Taken C → Type 0
IsTakePassOf post pass = (pass.queue ≡ post.queue) × (pass.workers ≡ post.workers)

-- a worker's pass that sent nothing
abbrev pub fresh_send : {C : Type 0} → Posted → Planned → ℕ → Sent C
fresh_send post plan worker = record { queue = post.queue; plan = plan; worker = worker; sent = [] }

-- a pass that received nothing
abbrev pub fresh_take : {C : Type 0} → Posted → Planned → Taken C
fresh_take post plan = record { queue = post.queue; plan = plan; workers = post.workers; received = [] }

-- a note that this pass may send: its worker's, which hasn't ended, and honest
pub record MaySend {C : Type 0} (made : Making C) (pass : Sent C) (note : Note C) : Type 0 where
  pub worker : worker_of note ≡ pass.worker
  pub honest : IsHonestNote made pass.plan note
  pub going : has_end pass.sent ≡ false

-- a note that comes to this pass: honest, and of a worker that hasn't ended
pub record MayCome {C : Type 0} (made : Making C) (pass : Taken C) (note : Note C) : Type 0 where
  pub worker : worker_of note < pass.workers
  pub honest : IsHonestNote made pass.plan note
  pub going : has_end (notes_of (worker_of note) pass.received) ≡ false

-- the pass with one more note
abbrev pub with_sent : {C : Type 0} → Sent C → Note C → Sent C
with_sent pass note = record pass { sent = pass.sent ++ note ∷ [] }

abbrev pub with_received : {C : Type 0} → Taken C → Note C → Taken C
with_received pass note = record pass { received = pass.received ++ note ∷ [] }

-- every worker's end was received
abbrev pub AllEnded : {C : Type 0} → Taken C → Type 0
AllEnded pass = (worker : ℕ) → worker < pass.workers → has_end (notes_of worker pass.received) ≡ true

-- each worker below this number has a pass among these
abbrev pub HaveAllWorkers : {C : Type 0} → ℕ → List (Sent C) → Type 0
HaveAllWorkers workers passes = (worker : ℕ) → worker < workers → Any (λ pass. pass.worker ≡ worker) passes

-- the notes received of the pass's worker are all that it sent
abbrev pub IsAllReceived : {C : Type 0} → Taken C → Sent C → Type 0
IsAllReceived take pass = notes_of pass.worker take.received ≡ pass.sent

-- arrivals from a post: the pass, and the notes received since the arrivals were made
pub record Arriving (C : Type 0) : Type 0 where
  pub pass : Taken C
  pub since : List (Note C)

-- between one state and a later one these pieces came: those of the notes that were received in between
pub record CameBetween {C : Type 0} (old : Arriving C) (came : List (Piece C)) (new : Arriving C) : Type 0 where
  pub notes : List (Note C)
  pub received : new.pass ≡ record old.pass { received = old.pass.received ++ notes }
  pub since : new.since ≡ old.since ++ notes
  pub pieces : came ≡ pieces_among notes

abbrev pub with_arrival : {C : Type 0} → Arriving C → Note C → Arriving C
with_arrival arriving note = record { pass = with_received arriving.pass note; since = arriving.since ++ note ∷ [] }
