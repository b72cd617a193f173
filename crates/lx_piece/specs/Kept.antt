-- The contents of a collector, and those that the arrivals require.
use Rattle.std.specs.Prelude.{ℕ, ◌≡◌, ◌+◌, ◌<◌, ◌≤◌, ◌==◌, Bool, true, false, ◌||◌, nat_lt, is_some, List, [], ◌∷◌, Option, Some, None, Contains, length, slice_get, slice_set, map, sum_by, if◌then◌else◌}
use Rattle.std.specs.Ordering.{nat_cmp}
use Rattle.std.specs.BTreeMap.{is_at}
use Rattle.std.specs.BTreeSet.{BTreeSet, contains}
use Rattle.std.specs.List.{list_any}
use Rattle.std.specs.Map.{lookup}
use Rattle.lx_piece.specs.declared.piece.Piece.{Piece}
use Rattle.lx_piece.specs.declared.reply.Why.{Why}
use Rattle.lx_piece.specs.Plans.{max_files}
use Rattle.lx_piece.specs.Pieces.{is_closing, is_cut_short}
use Rattle.lx_piece.specs.Arrivals.{RunShape, accepted_of, cause_against, has_piece, has_closing, has_truncated}

-- A collector's buffer of one file: the number of its next piece, the number of the closing piece, the same if that piece is marked Cut, and the held
-- pieces. The pieces below the next one were delivered; each held one is under its number.
pub record Buffered (C : Type 0) : Type 0 where
  pub next : ℕ
  pub closing : Option ℕ
  pub truncated : Option ℕ
  pub held : List (ℕ × Piece C)

-- the pieces of these numbers and, in front of them, the next one
abbrev pub with_next : {C : Type 0} → ℕ → Option (Piece C) → List (ℕ × Piece C) → List (ℕ × Piece C)
with_next next None pieces = pieces
with_next next (Some piece) pieces = (next, piece) ∷ pieces

-- the contents of a collector
pub record Kept (C : Type 0) : Type 0 where
  pub run : ℕ
  pub buffers : List (Buffered C)

abbrev pub shape_of_kept : {C : Type 0} → Kept C → RunShape
shape_of_kept kept = record { run = kept.run; files = length kept.buffers }

-- the arrivals that a collector accepted
abbrev pub accepted_by : {C : Type 0} → Kept C → List (Piece C) → List (Piece C)
accepted_by kept came = accepted_of (shape_of_kept kept) came

-- the first cause that it has against an arrival after these
abbrev pub cause_by : {C : Type 0} → Kept C → List (Piece C) → Piece C → Option Why
cause_by kept came p = cause_against (shape_of_kept kept) (accepted_by kept came) p

-- the piece held under a number
abbrev pub held_at : {C : Type 0} → Buffered C → ℕ → Option (Piece C)
held_at buffer number = lookup (is_at (nat_cmp number)) buffer.held

-- true if a piece of this number was delivered or is held
abbrev pub has_number : {C : Type 0} → Buffered C → ℕ → Bool
has_number buffer number = nat_lt number buffer.next || is_some (held_at buffer number)

-- true if the number is the closing one
abbrev pub is_number : Option ℕ → ℕ → Bool
is_number None n = false
is_number (Some m) n = m == n

-- a file's buffer represents these accepted pieces
pub record BufferStandsFor {C : Type 0} (buffer : Buffered C) (file : ℕ) (accepted : List (Piece C)) : Type 0 where
  pub numbers : (n : ℕ) → has_piece file n accepted ≡ has_number buffer n
  pub held : (n : ℕ) (p : Piece C) → held_at buffer n ≡ Some p → (p.file ≡ file) × (p.number ≡ n) × Contains accepted p
  pub closing : (n : ℕ) → has_closing file n accepted ≡ is_number buffer.closing n
  pub truncated : (n : ℕ) → has_truncated file n accepted ≡ is_number buffer.truncated n

-- a collector represents a list of arrivals
pub record StandsFor {C : Type 0} (kept : Kept C) (came : List (Piece C)) : Type 0 where
  pub each : (file : ℕ) (buffer : Buffered C) → slice_get kept.buffers file ≡ Some buffer → BufferStandsFor buffer file (accepted_by kept came)

-- true if the file's next piece is held
abbrev pub is_ready : {C : Type 0} → Buffered C → Bool
is_ready buffer = is_some (held_at buffer buffer.next)

-- the next piece was delivered
pub record Advances {C : Type 0} (old new : Buffered C) : Type 0 where
  pub next : new.next ≡ old.next + 1
  pub closing : new.closing ≡ old.closing
  pub truncated : new.truncated ≡ old.truncated
  pub held : (n : ℕ) → held_at new n ≡ (if n == old.next then None else held_at old n)
  pub fewer : length new.held + 1 ≡ length old.held

-- true if the closing number is below n
abbrev pub closed_before : Option ℕ → ℕ → Bool
closed_before None n = false
closed_before (Some m) n = nat_lt m n

-- the closing number once p is kept
abbrev pub closing_with : {C : Type 0} → Option ℕ → Piece C → Option ℕ
closing_with closing p = if is_closing p then Some p.number else closing

-- the same, of the number of a piece marked Cut
abbrev pub truncated_with : {C : Type 0} → Option ℕ → Piece C → Option ℕ
truncated_with truncated p = if is_cut_short p then Some p.number else truncated

-- p is held, too, and nothing else has changed
pub record HoldsPiece {C : Type 0} (old : Buffered C) (p : Piece C) (new : Buffered C) : Type 0 where
  pub next : new.next ≡ old.next
  pub closing : new.closing ≡ old.closing
  pub truncated : new.truncated ≡ old.truncated
  pub held : (n : ℕ) → held_at new n ≡ (if n == p.number then Some p else held_at old n)

-- the buffer holds p, too
pub record KeepsPiece {C : Type 0} (old : Buffered C) (p : Piece C) (new : Buffered C) : Type 0 where
  pub next : new.next ≡ old.next
  pub closing : new.closing ≡ closing_with old.closing p
  pub truncated : new.truncated ≡ truncated_with old.truncated p
  pub held : (n : ℕ) → held_at new n ≡ (if n == p.number then Some p else held_at old n)

-- true if the file's next piece is held; false if there is no such file
abbrev pub is_ready_at : {C : Type 0} → Option (Buffered C) → Bool
is_ready_at None = false
is_ready_at (Some buffer) = is_ready buffer

-- p is delivered: the next piece of the lowest file that holds its next
pub record Delivers {C : Type 0} (old : List (Buffered C)) (file : ℕ) (p : Piece C) (new : List (Buffered C)) : Type 0 where
  pub buffer : Buffered C
  pub advanced : Buffered C
  pub there : slice_get old file ≡ Some buffer
  pub next : held_at buffer buffer.next ≡ Some p
  pub lowest : (g : ℕ) → g < file → is_ready_at (slice_get old g) ≡ false
  pub moves : Advances buffer advanced
  pub after : new ≡ slice_set old file advanced

-- no file's next piece is held
abbrev pub NoneReady : {C : Type 0} → List (Buffered C) → Type 0
NoneReady buffers = (g : ℕ) → is_ready_at (slice_get buffers g) ≡ false

-- p is held in its file's buffer, too
pub record KeepsIn {C : Type 0} (old : List (Buffered C)) (p : Piece C) (new : List (Buffered C)) : Type 0 where
  pub buffer : Buffered C
  pub kept : Buffered C
  pub there : slice_get old p.file ≡ Some buffer
  pub keeps : KeepsPiece buffer p kept
  pub after : new ≡ slice_set old p.file kept

-- these and, in front of them, the lowest
abbrev pub with_lowest : Option ℕ → List ℕ → List ℕ
with_lowest None files = files
with_lowest (Some lowest) files = lowest ∷ files

-- the others are above the lowest; there are none if there is no lowest
abbrev pub AreAbove : Option ℕ → BTreeSet ℕ → Type 0
AreAbove None others = (file : ℕ) → contains nat_cmp others file ≡ false
AreAbove (Some lowest) others = (file : ℕ) → contains nat_cmp others file ≡ true → lowest < file

-- true if the file is among these
abbrev pub has_file : List ℕ → ℕ → Bool
has_file files file = list_any (is_at (nat_cmp file)) files

-- these are the files whose next piece is held
pub record IsReadySet {C : Type 0} (buffers : List (Buffered C)) (ready : List ℕ) : Type 0 where
  pub few : length buffers ≤ max_files
  pub each : (g : ℕ) → has_file ready g ≡ is_ready_at (slice_get buffers g)

-- the buffer of a file of which no piece came
abbrev pub fresh_buffer : {C : Type 0} → Buffered C
fresh_buffer = record { next = 0; closing = None; truncated = None; held = [] }

-- the number of delivered pieces of each file
abbrev pub delivered_counts : {C : Type 0} → Kept C → List ℕ
delivered_counts kept = map (λ buffer. buffer.next) kept.buffers

-- the number of held pieces
abbrev pub held_total : {C : Type 0} → List (Buffered C) → ℕ
held_total buffers = sum_by (λ buffer. length buffer.held) buffers

-- the closing piece was delivered
abbrev pub is_buffer_closed : {C : Type 0} → Buffered C → Bool
is_buffer_closed buffer = closed_before buffer.closing buffer.next

-- it was delivered, and is marked Cut
abbrev pub is_buffer_truncated : {C : Type 0} → Buffered C → Bool
is_buffer_truncated buffer = closed_before buffer.truncated buffer.next
