-- The lines of files that arrive in blocks.
use Rattle.std.specs.Prelude.{ℕ, ◌≡◌, Bool, false, List, [], ◌++◌}
use Rattle.lx_tables.specs.Model.{Table}
use Rattle.lx_scan.specs.declared.item.Item.{Item}
use Rattle.lx_scan.specs.Streams.{Gives, HasScanned, IsDrained, IsFedOf, Stream}
use Rattle.lx_piece.specs.Plans.{Planned, bytes_of}
use Rattle.lx_line.specs.Styles.{Style, lines_by}
use Rattle.lx_listing.specs.Gathered.{Gathered, Gathers}

-- a file that is listed in a style while it arrives: the plan whose tables count, the number of the file, the scanner, and the sink
pub record Streamed (L S : Type 0) : Type 0 where
  pub style : L
  pub plan : Planned
  pub file : ℕ
  pub stream : Stream
  pub sink : Gathered S

-- The scanner is in a text, by these tables: it was fed the front, and gave its first items.
pub record IsScanning (table : Table) (s : Stream) : Type 0 where
  pub table_is : s.table ≡ table
  pub front : List ℕ
  pub given : List Item
  pub scanned : HasScanned s front given

-- Items were given and their lines were gathered, in each plan with a file that begins with what was fed.
pub record ListsGiven {S : Type 0} (wrote : S → List ℕ → S → Type 0) (style : Style) (file : ℕ) (s : Stream) (old : Gathered S) (t : Stream) (new : Gathered S) : Type 0 where
  pub given : List Item
  pub gives : Gives s t given
  pub lines : (whole : Planned) (rest : List ℕ) → whole.table ≡ s.table → IsFedOf s (bytes_of whole file) rest → Gathers wrote old (lines_by style whole file given) new

-- The scanner was fed the front of a file that goes on. The lines of all items that it gave were gathered since the start.
pub record HasLines {S : Type 0} (wrote : S → List ℕ → S → Type 0) (style : Style) (file : ℕ) (s : Stream) (front : List ℕ) (start now : Gathered S) : Type 0 where
  pub given : List Item
  pub scanned : HasScanned s front given
  pub goes_on : s.has_ended ≡ false
  pub lines : (whole : Planned) (rest : List ℕ) → whole.table ≡ s.table → bytes_of whole file ≡ front ++ rest → Gathers wrote start (lines_by style whole file given) now

-- Nothing waits in vain: all items that are decided were given, and no line of theirs is held.
pub record IsPrompt {L S : Type 0} (s : Streamed L S) : Type 0 where
  pub drained : IsDrained s.stream
  pub none_held : s.sink.held ≡ []

-- These bytes of the file were taken, in blocks, and the lines of all items that the scanner gave were gathered.
pub record TakesBytes {L S : Type 0} (style : L → Style) (wrote : S → List ℕ → S → Type 0) (old : Streamed L S) (bytes : List ℕ) (new : Streamed L S) : Type 0 where
  pub style_is : new.style ≡ old.style
  pub plan_is : new.plan ≡ old.plan
  pub file_is : new.file ≡ old.file
  pub lines : (start : Gathered S) (front : List ℕ) → HasLines wrote (style old.style) old.file old.stream front start old.sink → HasLines wrote (style old.style) old.file new.stream (front ++ bytes) start new.sink
  pub prompt : IsPrompt old → IsPrompt new
