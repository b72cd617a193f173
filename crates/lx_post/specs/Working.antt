-- The files that a worker has drawn and the notes that it has sent, during its work and at its end.
use Rattle.std.specs.Prelude.{◌≡◌, ◌<◌, ◌≤◌, ℕ, true, false, List, [], ◌∷◌, ◌++◌, Option, None, All, Contains, length}
use Rattle.lx_piece.specs.Plans.{Planned}
use Rattle.lx_piece.specs.Pieces.{Making, piece_by}
use Rattle.lx_piece.specs.Relayed.{AreAllAmongBy}
use Rattle.lx_post.specs.declared.job.Job.{Job}
use Rattle.lx_post.specs.declared.job.Outcome.{Outcome}
use Rattle.lx_post.specs.declared.job.Outcome.TheVariants.{Done, Back}
use Rattle.lx_post.specs.declared.note.Note.{Note}
use Rattle.lx_post.specs.declared.note.Note.TheVariants.{End as note_end}
use Rattle.lx_post.specs.declared.note.WorkerFault.{WorkerFault}
use Rattle.lx_post.specs.Claimed.{Claimed, Drawn, fresh_seat, times}
use Rattle.lx_post.specs.Notes.{first_fault, has_end, pieces_among}
use Rattle.lx_post.specs.Posted.{Posted, Sent, fresh_send, with_sent}

-- the pass sends to this post for this plan, and hasn't ended
pub record IsGoing {C : Type 0} (post : Posted) (plan : Planned) (pass : Sent C) : Type 0 where
  pub queue : pass.queue ≡ post.queue
  pub plan_of : pass.plan ≡ plan
  pub going : has_end pass.sent ≡ false

-- the first pieces of the file, this many, were sent by this pass
pub record HasSentTo {C : Type 0} (made : Making C) (plan : Planned) (file count : ℕ) (pass : Sent C) : Type 0 where
  pub each : (number : ℕ) → number < count → Contains (pieces_among pass.sent) (piece_by made plan file number)

-- every piece of the file was sent by this pass
pub record HasSent {C : Type 0} (made : Making C) (plan : Planned) (file : ℕ) (pass : Sent C) : Type 0 where
  pub all : AreAllAmongBy made plan file (pieces_among pass.sent)

-- between one state of a pass and a later one, only pieces were sent
pub record SendsPieces {C : Type 0} (old new : Sent C) : Type 0 where
  pub notes : List (Note C)
  pub pass : new ≡ record old { sent = old.sent ++ notes }
  pub pieces : has_end notes ≡ false

-- the list is no longer than any number above all in it
abbrev pub IsSparse : List ℕ → Type 0
IsSparse xs = (n : ℕ) → All (λ x. x < n) xs → length xs ≤ n

-- The seat drew this many files, and every piece of each of them was sent.
pub record HasDrawn {C : Type 0} (made : Making C) (plan : Planned) (files : ℕ) (seat : Drawn) (pass : Sent C) : Type 0 where
  pub count : files ≡ length seat.drawn
  pub sparse : IsSparse seat.drawn
  pub sent : (file : ℕ) → 0 < times file seat.drawn → HasSent made plan file pass

-- a worker that hasn't begun
pub record IsReady {C : Type 0} (claims : Claimed) (post : Posted) (plan : Planned) (job : Job C) : Type 0 where
  pub seat : job.seat ≡ fresh_seat claims
  pub pass : job.pass ≡ fresh_send post plan job.pass.worker
  pub worker : job.pass.worker < post.workers

-- A worker that ended: it sent pieces and at last its end. If the end names no fault, the worker drew until no file was left. Then the end has the
-- number of the files that it drew, and every piece of each was sent.
pub record HasWorked {C : Type 0} (made : Making C) (old new : Job C) : Type 0 where
  pub word : new.seat.word ≡ old.seat.word
  pub total : new.seat.files ≡ old.seat.files
  pub before : List (Note C)
  pub files : ℕ
  pub fault : Option WorkerFault
  pub pieces : has_end before ≡ false
  pub pass : new.pass ≡ record old.pass { sent = before ++ note_end old.pass.worker files fault ∷ [] }
  pub done : fault ≡ None → new.seat.done ≡ true
  pub drawn : fault ≡ None → HasDrawn made old.pass.plan files new.seat new.pass

-- the possible outcomes of a job: the worker ended, or never began
abbrev pub IsOutcome : {C : Type 0} → Making C → Job C → Outcome C → Type 0
IsOutcome made job (Done new) = HasWorked made job new
IsOutcome made job (Back new) = new ≡ job

-- A worker's job at its end: its seat and its pass are of these. If its end named no fault, it drew until no file was left, and sent every piece of
-- each file that it drew.
pub record IsDone {C : Type 0} (made : Making C) (claims : Claimed) (post : Posted) (plan : Planned) (job : Job C) : Type 0 where
  pub word : job.seat.word ≡ claims.word
  pub total : job.seat.files ≡ claims.files
  pub queue : job.pass.queue ≡ post.queue
  pub worker : job.pass.worker < post.workers
  pub done : first_fault job.pass.sent ≡ None → job.seat.done ≡ true
  pub sent : first_fault job.pass.sent ≡ None → (file : ℕ) → 0 < times file job.seat.drawn → HasSent made plan file job.pass

-- A worker that never began: its seat drew nothing, and its pass sent its end alone, with no file and no fault.
pub record IsIdle {C : Type 0} (claims : Claimed) (post : Posted) (plan : Planned) (job : Job C) : Type 0 where
  pub seat : job.seat ≡ fresh_seat claims
  pub pass : job.pass ≡ with_sent (fresh_send post plan job.pass.worker) (note_end job.pass.worker 0 None)
  pub worker : job.pass.worker < post.workers
