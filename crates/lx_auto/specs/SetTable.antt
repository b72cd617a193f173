-- A table of position sets with their numbers (Rabin and Scott 1959).
use Rattle.std.specs.Prelude.{◌≡◌, ◌≢◌, ℕ, ◌+◌, ◌<◌, ◌≤◌, Bool, nat_eq, List, [], length, slice_get, Option, Some, None}
use Rattle.std.specs.Cmp.Lexicographic.{pointwise}
use Rattle.std.specs.declared.hash.FoldHasher.{FoldHasher}
use Rattle.std.specs.declared.hash.BuildHasherDefault.{BuildHasherDefault}
use Rattle.std.specs.HashMap.{get, HashMap}
use Rattle.smallvec.specs.SmallVec.{SmallVec}

-- a set of positions, in ascending order
abbrev pub Positions : Type 0
Positions = SmallVec ℕ

abbrev pub words_of : Option Positions → List ℕ
words_of None = []
words_of (Some s) = s.items

-- the set with this number; a number past the end has the empty one
abbrev pub set_of : List Positions → ℕ → List ℕ
set_of sets i = words_of (slice_get sets i)

abbrev pub Numbers : Type 0
Numbers = HashMap Positions ℕ (BuildHasherDefault FoldHasher)

-- the test by which the map's keys are equal
abbrev pub same : Positions → Positions → Bool
same v w = pointwise nat_eq v.items w.items

-- the map gives each set of the table its number
pub record IsNumbering (sets : List Positions) (numbers : Numbers) : Type 0 where
  pub known : (i : ℕ) (s : Positions) → slice_get sets i ≡ Some s → get same numbers s ≡ Some i
  pub numbered : (s : Positions) (i : ℕ) → get same numbers s ≡ Some i → (i < length sets) × (set_of sets i ≡ s.items)

-- the target of a step: none for the empty set, otherwise the number of its set
abbrev pub IsTarget : List Positions → Option ℕ → List ℕ → Type 0
IsTarget sets None set = set ≡ []
IsTarget sets (Some j) set = (set ≢ []) × (j < length sets) × (set_of sets j ≡ set)

-- the later list extends the earlier one, by at most this set
pub record IsExtendedBy (old new : List Positions) (set : List ℕ) : Type 0 where
  pub more : length old ≤ length new
  pub at_most : length new ≤ length old + 1
  pub kept : (i : ℕ) → i < length old → set_of new i ≡ set_of old i
  pub added : (i : ℕ) → length old ≤ i → i < length new → set_of new i ≡ set
