-- The notes that the delivering thread has received of a run that met no fault.
use Rattle.std.specs.Prelude.{◌≡◌, ◌<◌, ◌≤◌, ℕ, List, None, All, Result, Err, OnOk, slice_index}
use Rattle.lx_piece.specs.Plans.{Planned, files_of, max_files, max_workers}
use Rattle.lx_piece.specs.Pieces.{Making, pieces_of}
use Rattle.lx_piece.specs.Relayed.{AreAllAmongBy}
use Rattle.lx_post.specs.Notes.{first_fault, pieces_among}
use Rattle.lx_post.specs.Claimed.{Claimed}
use Rattle.lx_post.specs.declared.job.Job.{Job}
use Rattle.lx_post.specs.declared.job.Ran.{Ran}
use Rattle.lx_post.specs.declared.job.Ran.TheVariants.{Whole, Received, Failed}
use Rattle.lx_post.specs.declared.run_fault.RunFault.{RunFault}
use Rattle.lx_post.specs.declared.run_fault.RunFault.TheVariants as fault
use Rattle.lx_post.specs.Posted.{Posted, Taken, IsTakePassOf, fresh_take}
use Rattle.lx_post.specs.Working.{IsDone, IsIdle, IsReady}

-- No worker's end named a fault. If every piece of a file was received, a reader with these counts took it whole.
pub record IsCollected {C : Type 0} (made : Making C) (plan : Planned) (take : Taken C) (counts : List ℕ) : Type 0 where
  pub faultless : first_fault take.received ≡ None
  pub whole : (file : ℕ) → file < files_of plan → AreAllAmongBy made plan file (pieces_among take.received) → slice_index counts file ≡ pieces_of plan file

-- the meaning of an answer for the reader's faults before and after
pub record TellsFaults {T : Type 0} (answer : Result T RunFault) (before after : ℕ) : Type 0 where
  pub failed : answer ≡ Err fault.Reader → before < after
  pub none : OnOk answer (after ≡ before)

-- a reader with these counts took every file whole
pub record IsWhole (plan : Planned) (counts : List ℕ) : Type 0 where
  pub each : (file : ℕ) → file < files_of plan → slice_index counts file ≡ pieces_of plan file

-- every piece of every file was received
pub record AreAllReceived {C : Type 0} (made : Making C) (plan : Planned) (take : Taken C) : Type 0 where
  pub each : (file : ℕ) → file < files_of plan → AreAllAmongBy made plan file (pieces_among take.received)

-- before a run: claims, a post and its pass for this plan, and jobs of workers that haven't begun
pub record IsPrepared {C : Type 0} (plan : Planned) (claims : Claimed) (post : Posted) (take : Taken C) (jobs : List (Job C)) : Type 0 where
  pub files : claims.files ≡ files_of plan
  pub few_files : claims.files ≤ max_files
  pub few_workers : post.workers ≤ max_workers
  pub nothing_received : take ≡ fresh_take post plan
  pub ready : All (IsReady claims post plan) jobs

-- The received notes of a run that met no fault, and the jobs of the workers: those that ended, and those that never began.
pub record HasReceived {C : Type 0} (made : Making C) (plan : Planned) (claims : Claimed) (post : Posted) (take : Taken C) (ended idle : List (Job C)) (counts : List ℕ) : Type 0 where
  pub pass : IsTakePassOf post take
  pub done : All (IsDone made claims post plan) ended
  pub unbegun : All (IsIdle claims post plan) idle
  pub collected : IsCollected made plan take counts

-- the outcome of a run's threads, if the reader has these counts
abbrev pub HasRun : {C : Type 0} → Making C → Planned → Claimed → Posted → List ℕ → Ran C → Type 0
HasRun made plan claims post counts Whole = IsWhole plan counts
HasRun made plan claims post counts (Received take ended idle) = HasReceived made plan claims post take ended.items idle.items counts
HasRun made plan claims post counts (Failed named) = Unit {0}

-- the meaning of that outcome for the reader's faults before and after
abbrev pub TellsFaultsOf : {C : Type 0} → Ran C → ℕ → ℕ → Type 0
TellsFaultsOf Whole before after = after ≡ before
TellsFaultsOf (Received take ended idle) before after = after ≡ before
TellsFaultsOf (Failed named) before after = named ≡ fault.Reader → before < after
