-- A scanner that is fed a text in blocks: the items that are left, in each text that begins with what was fed.
use Rattle.std.specs.Prelude.{◌≡◌, ℕ, ◌+◌, ◌-◌, ◌^◌, ◌<◌, ◌≤◌, ◌⊎◌, All, Bool, false, IsTrue, List, [], ◌++◌, Option, Some, None, drop, length, slice_range, take}
use Rattle.std.specs.Option.{ForSome}
use Rattle.lx_automaton.specs.Automata.{Machine, start_of, state_after, state_count, target_of}
use Rattle.lx_tables.specs.Model.{IsTable, Table}
use Rattle.lx_scan.specs.declared.cursor.Cursor.{Cursor}
use Rattle.lx_scan.specs.declared.item.Item.{Item}
use Rattle.lx_scan.specs.declared.memory.ScanMemory.{ScanMemory}
use Rattle.lx_scan.specs.declared.place.Match.{Match}
use Rattle.lx_scan.specs.declared.place.Place.{Place}
use Rattle.lx_scan.specs.declared.progress.Progress.{Progress}
use Rattle.lx_scan.specs.Answers.{furthest}
use Rattle.lx_scan.specs.Cursors.{steps_left}
use Rattle.lx_scan.specs.Failing.{IsFailed, IsMemoryOf}
use Rattle.lx_scan.specs.ItemParts.{len_of, start_of as item_start}
use Rattle.lx_scan.specs.Items.{first_place, items_after, items_of}
use Rattle.lx_scan.specs.Matching.{GoesOn}
use Rattle.lx_scan.specs.Steps.{items_of_steps}

-- The scanner between two items: the tables, and the items of the last match that weren't given yet. Then the bytes up to the end of that match that are
-- kept, the bytes that were fed after it, and the place between them. The last part is true once the text has ended.
pub record Stream : Type 0 where
  pub table : Table
  pub due : List Item
  pub kept : List ℕ
  pub held : List ℕ
  pub place : Place
  pub has_ended : Bool

-- before the first byte
abbrev pub first_stream : Table → Stream
first_stream table = record { table = table; due = []; kept = []; held = []; place = first_place; has_ended = false }

-- It is at its place in this text, and was fed the text up to this rest. If the text has ended, there is no rest.
pub record IsFedOf (s : Stream) (text rest : List ℕ) : Type 0 where
  pub within : s.place.offset ≤ length text
  pub held : drop s.place.offset text ≡ s.held ++ rest
  pub kept : slice_range text (s.place.offset - length s.kept) s.place.offset ≡ s.kept
  pub end : IsTrue s.has_ended → rest ≡ []

-- the items of this text that are left
abbrev pub left_in : Stream → List ℕ → List Item
left_in s text = s.due ++ items_after s.table text s.place

-- the bytes of an item are kept
pub record IsKept (s : Stream) (item : Item) : Type 0 where
  pub from : s.place.offset ≤ item_start item + length s.kept
  pub to : item_start item + len_of item ≤ s.place.offset

-- A block was fed. In each text that goes on with it, the same items are left.
pub record Feeds (old new : Stream) (block : List ℕ) : Type 0 where
  pub same : new ≡ record old { kept = new.kept; held = old.held ++ block }
  pub fed : (text rest : List ℕ) → IsFedOf old text (block ++ rest) → IsFedOf new text rest
  pub items : (text : List ℕ) → left_in new text ≡ left_in old text

-- It gave these items. In each text that begins with what was fed, they are the first of those that were left, and the others are left.
pub record Gives (old new : Stream) (given : List Item) : Type 0 where
  pub table : new.table ≡ old.table
  pub end : new.has_ended ≡ old.has_ended
  pub fed : (text rest : List ℕ) → IsFedOf old text rest → IsFedOf new text rest
  pub items : (text rest : List ℕ) → IsFedOf old text rest → left_in old text ≡ given ++ left_in new text
  pub kept : (item : Item) → IsKept old item → IsKept new item

-- It gave the items that were appended to a list, and keeps their bytes.
pub record GivesTo (old new : Stream) (before after : List Item) : Type 0 where
  pub given : List Item
  pub after_is : after ≡ before ++ given
  pub gives : Gives old new given
  pub kept : All (IsKept new) given

-- It was fed these bytes of a text and gave these items. In each text that begins with the bytes, the items are the first ones, and the others are left.
pub record HasScanned (s : Stream) (front : List ℕ) (given : List Item) : Type 0 where
  pub fed : (rest : List ℕ) → (IsTrue s.has_ended → rest ≡ []) → IsFedOf s (front ++ rest) rest
  pub items : (rest : List ℕ) → (IsTrue s.has_ended → rest ≡ []) → items_of s.table (front ++ rest) ≡ given ++ left_in s (front ++ rest)

-- The text goes on, and in the state after the bytes that are held there is a step on some byte: the match in progress isn't decided.
pub record IsOpen (s : Stream) : Type 0 where
  pub goes_on : s.has_ended ≡ false
  pub state : ℕ
  pub there : state_after s.table.machine (Some (start_of s.table.machine s.place.condition s.place.at_line_begin)) s.held ≡ Some state
  pub byte : ℕ
  pub is_byte : byte < 256
  pub next : ℕ
  pub step : target_of s.table.machine state byte ≡ Some next

-- Nothing is held back in vain: all items of the last match were given, and if bytes are held, the match in progress isn't decided.
pub record IsDrained (s : Stream) : Type 0 where
  pub none_due : s.due ≡ []
  pub undecided : (s.held ≡ []) ⊎ IsOpen s

-- These items are decided by the bytes, as they are the first ones of each text that begins with them. No other item is decided: a scanner that gave them
-- is drained.
pub record AreDecided (table : Table) (bytes : List ℕ) (items : List Item) : Type 0 where
  pub s : Stream
  pub table_is : s.table ≡ table
  pub goes_on : s.has_ended ≡ false
  pub scanned : HasScanned s bytes items
  pub drained : IsDrained s

-- no items are left in a text that has ended
pub record IsOver (s : Stream) : Type 0 where
  pub none_left : (text : List ℕ) → IsTrue s.has_ended → IsFedOf s text [] → left_in s text ≡ []

-- ---- within the scanner
--  A walk from a place over the bytes that are held: this number of them was read, which led to a state, and this rule was accepted last.
pub record IsWalked (table : Table) (place : Place) (held : List ℕ) (read state : ℕ) (last : Option (ℕ × ℕ)) : Type 0 where
  pub within : read ≤ length held
  pub known : state < state_count table.machine
  pub there : state_after table.machine (Some (start_of table.machine place.condition place.at_line_begin)) (take read held) ≡ Some state
  pub furthest : last ≡ furthest table place.condition place.at_line_begin held read

-- After `since` bytes the walk was in the state `back`, and after none of the bytes read from there on is a rule accepted.
pub record IsSilentSince (m : Machine) (held : List ℕ) (read state since back : ℕ) : Type 0 where
  pub order : since ≤ read
  pub known : back < state_count m
  pub silent : (rest : List ℕ) → IsFailed m (drop read (held ++ rest)) state → IsFailed m (drop since (held ++ rest)) back

-- From the state after the bytes that were read nothing more is accepted, whatever bytes follow those that are held; none follow if the text has ended.
pub record IsStopped (m : Machine) (held : List ℕ) (has_ended : Bool) (read state : ℕ) : Type 0 where
  pub failed : (rest : List ℕ) → (IsTrue has_ended → rest ≡ []) → IsFailed m (drop read (held ++ rest)) state

-- This rule is the last one accepted from the place on, whatever bytes follow those that are held.
pub record IsDecided (table : Table) (place : Place) (held : List ℕ) (has_ended : Bool) (last : Option (ℕ × ℕ)) : Type 0 where
  pub last_is : (rest : List ℕ) → (IsTrue has_ended → rest ≡ []) → last ≡ furthest table place.condition place.at_line_begin (held ++ rest) (length (held ++ rest))

-- a memory of each text that goes on with the bytes in memory
pub record IsOpenMemory (table : Table) (bytes : List ℕ) (has_ended : Bool) (memory : ScanMemory) : Type 0 where
  pub is_memory : (rest : List ℕ) → (IsTrue has_ended → rest ≡ []) → IsMemoryOf table (bytes ++ rest) memory

-- The match at the place, which lies in the bytes that are held, and the next place, whatever bytes follow.
pub record GoesOnBy (table : Table) (place : Place) (held : List ℕ) (has_ended : Bool) (m : Match) (next : Place) : Type 0 where
  pub start : m.start ≡ place.offset
  pub some : 0 < m.len
  pub within : m.len ≤ length held
  pub rule : ForSome m.rule (λ i. i < length table.rules)
  pub offset : next.offset ≡ place.offset + m.len
  pub known : next.condition < length table.machine.starts
  pub line_some : 1 ≤ next.line
  pub line_few : next.line ≤ next.offset + 1
  pub goes_on : (text rest : List ℕ) → place.offset ≤ length text → drop place.offset text ≡ held ++ rest → (IsTrue has_ended → rest ≡ []) → GoesOn table text place m next

-- a cursor at this place, with no match
pub record IsAfter (c : Cursor) (place : Place) : Type 0 where
  pub place_is : c.place ≡ place
  pub start : c.found.start ≡ place.offset
  pub len : c.found.len ≡ 0
  pub rule : c.found.rule ≡ None
  pub done : 1 ≤ c.done

-- the scanner by its parts: the bytes in memory, the number of them up to the end of the last match, and the cursor after that match
abbrev pub stream_of : Table → List ℕ → ℕ → Cursor → Bool → Stream
stream_of table bytes start c has_ended = record {
  table = table;
  due = items_of_steps (steps_left table c) c.line c.found.start c.found.len;
  kept = take start bytes;
  held = drop start bytes;
  place = c.place;
  has_ended = has_ended;
}

-- the facts about the parts
pub record AreParts (table : Table) (bytes : List ℕ) (start : ℕ) (c : Cursor) (read state : ℕ) (last : Option (ℕ × ℕ)) : Type 0 where
  pub is_table : IsTable table
  pub within : start ≤ length bytes
  pub found : c.found.len ≤ start
  pub front : start ≤ c.place.offset
  pub behind : c.found.start + c.found.len ≡ c.place.offset
  pub known : c.place.condition < length table.machine.starts
  pub line_some : 1 ≤ c.place.line
  pub line_few : c.place.line ≤ c.place.offset + 1
  pub rule : ForSome c.found.rule (λ i. i < length table.rules)
  pub few : c.place.offset + length (drop start bytes) + 1 < 2 ^ 64
  pub walk : IsWalked table c.place (drop start bytes) read state last

abbrev pub stream_at : Table → List ℕ → Progress → Stream
stream_at table bytes p = stream_of table bytes p.start p.cursor p.has_ended

pub record IsProgress (table : Table) (bytes : List ℕ) (p : Progress) : Type 0 where
  pub parts : AreParts table bytes p.start p.cursor p.walk.read p.walk.state.0 p.walk.found.last
  pub silent : IsSilentSince table.machine (drop p.start bytes) p.walk.read p.walk.state.0 p.walk.found.since p.walk.found.state.0
