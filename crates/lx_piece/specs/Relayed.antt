-- The pieces taken of a plan's files.
use Rattle.std.specs.Prelude.{ℕ, ◌≡◌, ◌≢◌, ◌<◌, ◌≤◌, true, List, [], ◌∷◌, ◌++◌, Contains, Result, Err, OnOk, length, replicate, slice_index}
use Rattle.lx_piece.specs.declared.delivering.RelayFault.{RelayFault}
use Rattle.lx_piece.specs.declared.delivering.RelayFault.TheVariants as fault
use Rattle.lx_piece.specs.declared.piece.Piece.{Piece}
use Rattle.lx_piece.specs.declared.reply.Reply.{Reply}
use Rattle.lx_piece.specs.Plans.{Planned, files_of}
use Rattle.lx_piece.specs.Pieces.{ItemPiece, Making, bare, TakesInOrder, pieces_of, piece_by, top_number}
use Rattle.lx_piece.specs.Arrivals.{RunShape, shape_of, AreHonestBy, accepted_of, replies_of, has_piece, IsLeastMissing}

-- a reader of this plan that took nothing, and whose faults can still be counted
pub record TookNothing (plan of_reader : Planned) (counts : List ℕ) (faults : ℕ) : Type 0 where
  pub same : of_reader ≡ plan
  pub nothing : counts ≡ replicate (files_of plan) 0
  pub countable : faults < top_number

-- the meaning of a relay's answer for the reader's faults before and after
pub record TellsRelayFaults {T : Type 0} (answer : Result T RelayFault) (before after : ℕ) : Type 0 where
  pub failed : answer ≡ Err fault.Reader → before < after
  pub memory : answer ≡ Err fault.Memory → after ≡ before
  pub none : OnOk answer (after ≡ before)

-- the pieces taken of each file are some of its first ones, and so in order and none twice
pub record TakesAllInOrder (plan : Planned) (counts : List ℕ) : Type 0 where
  pub within : (file : ℕ) → file < files_of plan → slice_index counts file ≤ pieces_of plan file
  pub each : (file : ℕ) → file < files_of plan → TakesInOrder plan file (slice_index counts file)

-- each piece of every file was taken
abbrev pub AreAllTaken : Planned → List ℕ → Type 0
AreAllTaken plan counts = (file : ℕ) → file < files_of plan → slice_index counts file ≡ pieces_of plan file

-- some file has a piece that wasn't taken
abbrev pub HasOpenFile : Planned → List ℕ → Type 0
HasOpenFile plan counts = (file : ℕ) × (file < files_of plan) × (slice_index counts file ≢ pieces_of plan file)

-- the counts are, for each file, the least number that isn't accepted
pub record AllDelivered {C : Type 0} (shape : RunShape) (came : List (Piece C)) (counts : List ℕ) : Type 0 where
  pub files : length counts ≡ shape.files
  pub each : (file : ℕ) → file < shape.files → IsLeastMissing (accepted_of shape came) file (slice_index counts file)

-- the counts are no greater than that
pub record AtMostDelivered {C : Type 0} (shape : RunShape) (came : List (Piece C)) (counts : List ℕ) : Type 0 where
  pub files : length counts ≡ shape.files
  pub each : (file j : ℕ) → file < shape.files → j < slice_index counts file → has_piece file j (accepted_of shape came) ≡ true

-- every piece of a file is among these
abbrev pub AreAllAmongBy : {C : Type 0} → Making C → Planned → ℕ → List (Piece C) → Type 0
AreAllAmongBy made plan file came = (number : ℕ) → number < pieces_of plan file → Contains came (piece_by made plan file number)

abbrev pub AreAllAmong : Planned → ℕ → List ItemPiece → Type 0
AreAllAmong plan file came = AreAllAmongBy bare plan file came

-- The replies and the delivery of a whole run: the list that came, its replies, all that it delivers, and of each file no more than its pieces. A
-- file of which every piece came was taken whole.
pub record RelayedBy {C : Type 0} (made : Making C) (plan : Planned) (leads : List (Piece C) → Type 0) (replies : List Reply) (counts : List ℕ) : Type 0 where
  pub came : List (Piece C)
  pub led : leads came
  pub honest : AreHonestBy made plan came
  pub replied : replies ≡ replies_of (shape_of plan) came
  pub delivered : AllDelivered (shape_of plan) came counts
  pub taken : TakesAllInOrder plan counts
  pub whole : (file : ℕ) → file < files_of plan → AreAllAmongBy made plan file came → slice_index counts file ≡ pieces_of plan file

abbrev pub Relayed : Planned → (List ItemPiece → Type 0) → List Reply → List ℕ → Type 0
Relayed plan leads replies counts = RelayedBy bare plan leads replies counts

-- the delivery of a run that failed: no more than the list taken delivers, and no less than the list before its last arrival delivers
pub record RelayedInPartBy {C : Type 0} (made : Making C) (plan : Planned) (leads : List (Piece C) → Type 0) (counts : List ℕ) : Type 0 where
  pub came : List (Piece C)
  pub led : leads came
  pub honest : AreHonestBy made plan came
  pub delivered : AtMostDelivered (shape_of plan) came counts
  pub eager : (before : List (Piece C)) (last : Piece C) → came ≡ before ++ last ∷ [] → (file k : ℕ) → file < files_of plan → IsLeastMissing (accepted_of (shape_of plan) before) file k → k ≤ slice_index counts file
  pub taken : TakesAllInOrder plan counts

abbrev pub RelayedInPart : Planned → (List ItemPiece → Type 0) → List ℕ → Type 0
RelayedInPart plan leads counts = RelayedInPartBy bare plan leads counts
