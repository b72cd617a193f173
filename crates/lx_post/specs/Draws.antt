-- The rule of the word from which numbers of files are drawn: the numbers that the seats have drawn, for any value of the word.
use Rattle.std.specs.Prelude.{◌≡◌, ℕ, ◌+◌, ◌-◌, ◌^◌, ◌<◌, ◌≤◌, min, List, [], ◌∷◌, ◌++◌, length, slice_index, All, sum_by}
use mathlib.Core.Option.{some}
use lib.ListN.{get_elem?}
use Rattle.atomic_table.specs.Table.{State, Me, Step}
use Rattle.atomic_table.specs.declared.shared.Seat.{Seat}
use Rattle.lx_post.specs.declared.draw_rule.SeatView.{SeatView}
use Rattle.lx_post.specs.Claimed.{Claimed, times, once_below}

abbrev pub seat_view : ℕ → ℕ → ℕ → List ℕ → SeatView
seat_view files parts past drawn = record { files = files; parts = parts; past = past; drawn = drawn }

-- The facts about each seat, given the word. It drew past the files at most once for each part; if it did, the word has passed the files. Without a
-- part it drew nothing. Its draws are below the word.
pub record IsFair (files word : ℕ) (v : SeatView) : Type 0 where
  pub few : v.past ≤ v.parts
  pub passed : 0 < v.past → files ≤ word
  pub idle : v.parts ≡ 0 → v.drawn ≡ []
  pub below : (x : ℕ) → word ≤ x → times x v.drawn ≡ 0

-- The seats together drew the numbers below both the word and the number of files, each once. The word exceeds the number of files by at most the
-- number of draws that found no file. Each seat has at most one such draw for each part.
pub record AreDrawnOnce (files workers : ℕ) (s : State (Unit {0}) SeatView) : Type 0 where
  pub one_word : length s.words ≡ 1
  pub small : files + workers < 2 ^ 32
  pub all_parts : sum_by (λ (v : SeatView). v.parts) s.views ≡ workers
  pub each_once : (x : ℕ) → sum_by (λ (v : SeatView). times x v.drawn) s.views ≡ once_below x (min (slice_index s.words 0) files)
  pub bounded : slice_index s.words 0 ≤ files + sum_by (λ (v : SeatView). v.past) s.views
  pub fair : (k : ℕ) (v : SeatView) → get_elem? s.views k ≡ some v → IsFair files (slice_index s.words 0) v

-- a seat that gave one part away
abbrev pub one_part_less : SeatView → SeatView
one_part_less v = seat_view v.files (v.parts - 1) v.past v.drawn

-- the seat that it was given to
abbrev pub one_part : SeatView → SeatView
one_part v = seat_view v.files 1 0 []

-- two seats in one
abbrev pub together : SeatView → SeatView → SeatView
together v w = seat_view v.files (v.parts + w.parts) (v.past + w.past) (v.drawn ++ w.drawn)

-- the seat that was joined to another one
abbrev pub spent_seat : SeatView
spent_seat = seat_view 0 0 0 []

-- a seat of these claims with this number of parts, which has drawn nothing
abbrev pub IsFresh : Claimed → ℕ → Seat (Unit {0}) SeatView → Type 0
IsFresh claims parts seat = (seat.table_id ≡ claims.word) × (seat.me ≡ (seat_view claims.files parts 0 [], []))

-- A draw that found the number n. Below the number of files, it is appended to the seat's list, which has only smaller ones; else it is a draw past
-- the files.
abbrev pub Draws : Step (Unit {0}) → Me (Unit {0}) SeatView → ℕ → Me (Unit {0}) SeatView → Type 0
Draws st me n me' =
    (me'.1 ≡ me.1) × All (λ x. x < n) me.0.drawn
    × (n < me.0.files → me'.0 ≡ seat_view me.0.files me.0.parts me.0.past (me.0.drawn ++ n ∷ []))
    × (me.0.files ≤ n → me'.0 ≡ seat_view me.0.files me.0.parts (me.0.past + 1) me.0.drawn)

-- each file occurs once in the seat's list
abbrev pub Counts : Step (Unit {0}) → Me (Unit {0}) SeatView → ℕ → Me (Unit {0}) SeatView → Type 0
Counts st me n me' = (me'.1 ≡ me.1) × (me'.0 ≡ me.0) × ((x : ℕ) → times x me.0.drawn ≡ once_below x me.0.files)
