-- Pieces that are delivered in the plan's order: the progress of the delivery.
use Rattle.std.specs.Prelude.{ℕ, ◌≡◌, ◌+◌, Bool, true, false, List, Result, Err, OnOk, OnErr, IfErr}
use Rattle.lx_piece.specs.declared.piece.Piece.{Piece}
use Rattle.lx_piece.specs.declared.reader.ReaderFault.{ReaderFault}
use Rattle.lx_piece.specs.declared.reader.ReaderFault.TheVariants as fault
use Rattle.lx_piece.specs.Plans.{Planned, IsPlan}
use Rattle.lx_piece.specs.Pieces.{Making}
use Rattle.lx_piece.specs.Relayed.{HasOpenFile}
use Rattle.lx_piece.specs.Turns.{Turn, IsTurnBy}
use Rattle.lx_piece.specs.Waiting.{KeepsUp}

-- The taker of the pieces, the numbers of pieces that came of each file, the count of faults, and true if the taker failed. Each failure of the
-- taker's device counts as a fault, and so does each later request to it.
pub record Passing (T : Type 0) : Type 0 where
  pub taker : T
  pub counts : List ℕ
  pub faults : ℕ
  pub failed : Bool

-- The taker's change between two states. Until it fails, it takes the pieces of the turns between; then one isn't taken any more. After that it stays
-- as it is. If it fails, a file stays open.
pub record PassesOn {T : Type 0} (plan : T → Planned) (turn : T → Turn) (follows : T → T → Type 0) (fails : T → ReaderFault → T → Type 0) (old new : Passing T) : Type 0 where
  pub same : plan new.taker ≡ plan old.taker
  pub took : old.failed ≡ false → new.failed ≡ false → follows old.taker new.taker
  pub turned : old.failed ≡ false → new.failed ≡ false → IsTurnBy (plan old.taker) old.counts (turn old.taker) → IsTurnBy (plan new.taker) new.counts (turn new.taker)
  pub fell : old.failed ≡ false → new.failed ≡ true → (fault : ReaderFault) × fails old.taker fault new.taker
  pub stuck : old.failed ≡ false → new.failed ≡ true → HasOpenFile (plan new.taker) new.counts
  pub stopped : old.failed ≡ true → (new.failed ≡ true) × (new.taker ≡ old.taker) × (new.counts ≡ old.counts)

-- the failures of a device are counted, and no others
pub record CountsFaults {X : Type 0} (answer : Result X ReaderFault) (before after : ℕ) : Type 0 where
  pub device : answer ≡ Err fault.Device → after ≡ before + 1
  pub memory : answer ≡ Err fault.Memory → after ≡ before
  pub none : OnOk answer (after ≡ before)

-- After a fault of either kind it has failed, and the taker is as that fault left it. Each later answer is Device.
pub record StaysFailed {X T : Type 0} (fails : T → ReaderFault → T → Type 0) (answer : Result X ReaderFault) (old new : Passing T) : Type 0 where
  pub failed : OnErr answer (new.failed ≡ true)
  pub working : OnOk answer (new.failed ≡ false)
  pub stopped : old.failed ≡ true → answer ≡ Err fault.Device
  pub fell : old.failed ≡ false → IfErr answer (λ reason. fails old.taker reason new.taker)

-- the facts that hold between two calls
pub record IsInOrder {C : Type 0} (made : Making C) (plan : Planned) (turn : Turn) (counts : List ℕ) (first : ℕ) (waiting : List (List (Piece C))) (failed : Bool) : Type 0 where
  pub plan_is : IsPlan plan
  pub keeps : failed ≡ false → KeepsUp made plan turn counts first waiting
