-- States from which nothing more is accepted on the rest of a text, and a scanner's memory of them (Reps 1998, "Maximal-munch tokenization in linear
-- time").
use Rattle.std.specs.Prelude.{◌≡◌, ℕ, ◌-◌, ◌*◌, ◌/◌, ◌<◌, ◌≤◌, List, Option, None, Some, length, drop, take, slice_index, slice_index_or}
use Rattle.std.specs.Option.{ForSome}
use Rattle.lx_automaton.specs.Automata.{Machine, answer_from}
use Rattle.lx_tables.specs.Model.{Table}
use Rattle.lx_scan.specs.declared.memory.FailedState.{FailedState}
use Rattle.lx_scan.specs.declared.memory.ScanMemory.{ScanMemory}

-- From this state on, no front of these bytes that has at least one byte is accepted.
pub record IsFailed (m : Machine) (rest : List ℕ) (state : ℕ) : Type 0 where
  pub silent : (k : ℕ) → 0 < k → k ≤ length rest → answer_from m state (take k rest) ≡ None

-- The memory of a text. Each 32nd place has four numbers, each one more than a state that has failed there, or 0. Other failed states are kept with
-- their places.
pub record AreFailed (table : Table) (text marks : List ℕ) (others : List (Option FailedState)) : Type 0 where
  pub kept : (slot : ℕ) → 0 < slice_index marks slot → IsFailed table.machine (drop (slot / 4 * 32) text) (slice_index marks slot - 1)
  pub beside : (i : ℕ) → ForSome (slice_index_or others i None) (λ f. IsFailed table.machine (drop f.place text) f.state)

-- a memory of this text by this table
abbrev pub IsMemoryOf : Table → List ℕ → ScanMemory → Type 0
IsMemoryOf table text m = AreFailed table text m.marks.items m.others.items

-- one of the four numbers of a place
pub record IsMarked (marks : List ℕ) (place number : ℕ) : Type 0 where
  pub slot : ℕ
  pub here : slot / 4 * 32 ≡ place
  pub number_is : slice_index marks slot ≡ number

-- one of the other failed states is this state at this place
pub record IsAmong (others : List (Option FailedState)) (place state : ℕ) : Type 0 where
  pub index : ℕ
  pub found : FailedState
  pub there : slice_index_or others index None ≡ Some found
  pub place_is : found.place ≡ place
  pub state_is : found.state ≡ state
