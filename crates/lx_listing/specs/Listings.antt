-- The listing of a plan, and the part of it that a listing has written.
use Rattle.std.specs.Prelude.{ℕ, zero, suc, ◌≡◌, ◌≤◌, Bool, true, false, List, [], ◌++◌, Option, slice_index}
use Rattle.std.specs.Io.KnownBytes.{Appends}
use Rattle.lx_piece.specs.Plans.{Planned, IsPlan, files_of}
use Rattle.lx_piece.specs.Pieces.{IsPrefix, pieces_to}
use Rattle.lx_piece.specs.Relayed.{AreAllTaken, HasOpenFile}
use Rattle.lx_piece.specs.Turns.{Turn, IsFirstOpen}
use Rattle.lx_listing.specs.Lines.{Style, file_lines_by, pieces_lines_by, plain}
use Rattle.lx_line.specs.Styles.{Drafted}
pub use Rattle.lx_line.specs.Styles.{AreWhole}

-- the lines of the files below this one, in order
abbrev pub listing_to_by : Style → Planned → ℕ → List ℕ
listing_to_by style plan zero = []
listing_to_by style plan (suc file) = listing_to_by style plan file ++ file_lines_by style plan file

abbrev pub listing_to : Planned → ℕ → List ℕ
listing_to plan file = listing_to_by plain plan file

-- the lines of all files, in order
abbrev pub listing_by : Style → Planned → List ℕ
listing_by style plan = listing_to_by style plan (files_of plan)

abbrev pub listing_of : Planned → List ℕ
listing_of plan = listing_by plain plan

-- the lines of the first pieces of a file, this many
abbrev pub taken_lines_by : Style → Planned → ℕ → ℕ → List ℕ
taken_lines_by style plan file count = pieces_lines_by style plan file (pieces_to plan file count)

abbrev pub taken_lines : Planned → ℕ → ℕ → List ℕ
taken_lines plan file count = taken_lines_by plain plan file count

-- a turn of the plan: that of a piece, or the one after the last file
pub record IsTurnOf (plan : Planned) (turn : Turn) : Type 0 where
  pub plan_is : IsPlan plan
  pub within : turn.file ≤ files_of plan
  pub first : turn.file ≡ files_of plan → turn.number ≡ 0

-- a plan that is listed in a style
pub record Listed : Type 0 where
  pub style : Style
  pub plan : Planned

abbrev pub plainly : Planned → Listed
plainly plan = record { style = plain; plan = plan }

-- the plan and the style that a draft is for
abbrev pub listed_of : {L : Type 0} → (L → Style) → Drafted L → Listed
listed_of style drafted = record { style = style drafted.style; plan = drafted.plan }

-- all its lines
abbrev pub all_lines : Listed → List ℕ
all_lines listed = listing_by listed.style listed.plan

-- the lines of the pieces before a turn
abbrev pub lines_until : Listed → Turn → List ℕ
lines_until listed turn = listing_to_by listed.style listed.plan turn.file ++ taken_lines_by listed.style listed.plan turn.file turn.number

abbrev pub lines_before : Planned → Turn → List ℕ
lines_before plan turn = lines_until (plainly plan) turn

-- text is the lines of the pieces taken of the files up to and with the first that isn't closed
pub record IsDue (plan : Planned) (counts : List ℕ) (text : List ℕ) : Type 0 where
  pub plan_is : IsPlan plan
  pub first : ℕ
  pub first_open : IsFirstOpen plan counts first
  pub lines : text ≡ listing_to plan first ++ taken_lines plan first (slice_index counts first)

-- known bytes grow by whole lines
abbrev pub AppendsWhole : Option (List ℕ) → Option (List ℕ) → Type 0
AppendsWhole old new = (bytes : List ℕ) × AreWhole bytes × Appends old new bytes

-- the progress of a listing: the pieces that it took of each file, and a flag for failure
pub record Progress : Type 0 where
  pub plan : Planned
  pub counts : List ℕ
  pub faults : ℕ
  pub failed : Bool

-- a listing, and the bytes that its writer holds, if they are known
pub record Printed : Type 0 where
  pub progress : Progress
  pub written : Option (List ℕ)

abbrev pub printed : Progress → Option (List ℕ) → Printed
printed progress written = record { progress = progress; written = written }

-- The output of a listing between two states.
pub record Prints (old new : Printed) : Type 0 where
  pub plan : new.progress.plan ≡ old.progress.plan
  pub bytes : List ℕ
  pub wrote : Appends old.written new.written bytes
  -- Until it fails, it has written all lines that are due by the pieces taken.
  pub due : old.progress.failed ≡ false → new.progress.failed ≡ false → (text : List ℕ) → IsDue old.progress.plan old.progress.counts text → IsDue new.progress.plan new.progress.counts (text ++ bytes)
  -- A prefix of the listing was written, failed or not.
  pub prefix : old.progress.failed ≡ false → (text : List ℕ) → IsDue old.progress.plan old.progress.counts text → IsPrefix (text ++ bytes) (listing_of old.progress.plan)
  -- Once every file is closed, all of the listing was written.
  pub whole : old.progress.failed ≡ false → AreAllTaken new.progress.plan new.progress.counts → (text : List ℕ) → IsDue old.progress.plan old.progress.counts text → text ++ bytes ≡ listing_of new.progress.plan
  -- If it fails, a file stays open.
  pub stuck : old.progress.failed ≡ false → new.progress.failed ≡ true → HasOpenFile new.progress.plan new.progress.counts
  -- Once it has failed, it writes nothing and takes no piece.
  pub stopped : old.progress.failed ≡ true → (new.progress.failed ≡ true) × (bytes ≡ []) × (new.progress.counts ≡ old.progress.counts)
