-- The output of a printer, which takes pieces in the plan's order.
use Rattle.std.specs.Prelude.{ℕ, ◌≡◌, Bool, false, List, ◌++◌}
use Rattle.lx_piece.specs.declared.reader.ReaderFault.{ReaderFault}
use Rattle.lx_piece.specs.declared.reader.ReaderFault.TheVariants.{Memory}
use Rattle.lx_piece.specs.Plans.{Planned, IsPlan}
use Rattle.lx_piece.specs.declared.piece.Piece.{Piece}
use Rattle.lx_piece.specs.Pieces.{IsPrefix, ItemPiece, is_cut_short}
use Rattle.lx_piece.specs.Turns.{Turn, IsTurnBy}
use Rattle.lx_listing.specs.Lines.{cut_lines, lines_of}
use Rattle.lx_listing.specs.Shown.{ShownItems, shown}
use Rattle.lx_listing.specs.Listings.{AreWhole, IsTurnOf, Listed, all_lines, lines_until}

-- a prefix of these bytes was written
abbrev pub WrotePrefix : {S : Type 0} → (S → List ℕ → S → Type 0) → S → List ℕ → S → Type 0
WrotePrefix {S} wrote old bytes new = (front : List ℕ) × IsPrefix front bytes × wrote old front new

-- a printer: the plan and the style in which it is listed, the turn, and its sink
pub record Printing (S : Type 0) : Type 0 where
  pub listed : Listed
  pub turn : Turn
  pub sink : S

abbrev pub turn_of : ℕ → ℕ → Turn
turn_of file number = record { file = file; number = number }

abbrev pub printing : {S : Type 0} → Listed → ℕ → ℕ → S → Printing S
printing listed file number sink = record { listed = listed; turn = turn_of file number; sink = sink }

-- the output between two turns: the lines of the pieces between them
pub record PrintsTo {S : Type 0} (wrote : S → List ℕ → S → Type 0) (old new : Printing S) : Type 0 where
  pub same : new.listed ≡ old.listed
  pub bytes : List ℕ
  pub written : wrote old.sink bytes new.sink
  pub whole : AreWhole bytes
  pub after : IsTurnOf old.listed.plan old.turn → IsTurnOf old.listed.plan new.turn
  pub due : IsTurnOf old.listed.plan old.turn → lines_until old.listed old.turn ++ bytes ≡ lines_until old.listed new.turn

-- the output if it failed: more of the listing, and whole lines of it if an allocation failed
pub record PrintsPart {S : Type 0} (wrote : S → List ℕ → S → Type 0) (old : Printing S) (fault : ReaderFault) (new : Printing S) : Type 0 where
  pub bytes : List ℕ
  pub written : wrote old.sink bytes new.sink
  pub whole : fault ≡ Memory → AreWhole bytes
  pub prefix : IsTurnOf old.listed.plan old.turn → IsPrefix (lines_until old.listed old.turn ++ bytes) (all_lines old.listed)

-- the lines of a piece of a listing
abbrev pub shown_lines : Piece ShownItems → List ℕ
shown_lines piece = lines_of piece.items.plan piece.file piece.items.items ++ cut_lines piece.file (is_cut_short piece)

-- the same piece as a listing's piece
abbrev pub as_shown : Planned → ItemPiece → Piece ShownItems
as_shown plan piece = record { run = piece.run; file = piece.file; number = piece.number; mark = piece.mark; items = shown plan piece.file piece.items }

-- the invariant of a listing between two calls
pub record IsInStep (plan own : Planned) (turn : Turn) (counts : List ℕ) (failed : Bool) : Type 0 where
  pub same : own ≡ plan
  pub plan_is : IsPlan plan
  pub turn_is : failed ≡ false → IsTurnBy plan counts turn
