-- The automaton of the blocks. Block 0, which has the missing step, has a state only if a start is in it, and that state comes last.
use Rattle.std.specs.Prelude.{◌≡◌, ◌≢◌, ℕ, ◌+◌, ◌-◌, ◌*◌, ◌<◌, ◌≤◌, ◌==◌, if◌then◌else◌, List, length, slice_index, slice_index_or, ◌⊎◌}
use Rattle.lx_minimize.specs.Completion.{total, label_of, step_of}
use Rattle.lx_minimize.specs.Partitions.{block, block_count, member_of}
use Rattle.lx_minimize.specs.declared.complete.Complete.{Complete}
use Rattle.lx_minimize.specs.declared.partition.Partition.{Partition}

-- the number of a block's state
abbrev pub number_of : Partition → ℕ → ℕ
number_of p b = if b == 0 then block_count p - 1 else b - 1

-- the starts are states of the automaton that m completes
abbrev pub AreStates : Complete → List (ℕ × ℕ) → Type 0
AreStates m starts = (c : ℕ) → c < length starts → ((slice_index_or starts c (0, 0)).0 + 1 < total m) × ((slice_index_or starts c (0, 0)).1 + 1 < total m)

-- each pair of states of the automaton has become the pair of their blocks' states, below n
pub record AreStarts (p : Partition) (old new : List (ℕ × ℕ)) (n : ℕ) : Type 0 where
  pub long : length new ≡ n
  pub elsewhere : (c : ℕ) → c < n → (slice_index_or new c (0, 0)).0 ≡ number_of p (block p ((slice_index_or old c (0, 0)).0 + 1))
  pub at_begin : (c : ℕ) → c < n → (slice_index_or new c (0, 0)).1 ≡ number_of p (block p ((slice_index_or old c (0, 0)).1 + 1))

-- no start below n is in block 0
pub record HaveNoDeadStart (p : Partition) (starts : List (ℕ × ℕ)) (n : ℕ) : Type 0 where
  pub elsewhere : (c : ℕ) → c < n → block p ((slice_index_or starts c (0, 0)).0 + 1) ≢ 0
  pub at_begin : (c : ℕ) → c < n → block p ((slice_index_or starts c (0, 0)).1 + 1) ≢ 0

-- some start is in block 0
pub record HasDeadStart (p : Partition) (starts : List (ℕ × ℕ)) : Type 0 where
  pub state : ℕ
  pub condition : ℕ
  pub below : condition < length starts
  pub begins : ((slice_index_or starts condition (0, 0)).0 ≡ state) ⊎ ((slice_index_or starts condition (0, 0)).1 ≡ state)
  pub dead : block p (state + 1) ≡ 0

-- for each state of the quotient the state that it represents: the representatives of the blocks except 0, and perhaps state 0
pub record AreRowStates (p : Partition) (rows : List ℕ) : Type 0 where
  pub many : block_count p ≤ length rows + 1
  pub few : length rows ≤ block_count p
  pub members : (i : ℕ) → i + 1 < block_count p → slice_index rows i ≡ member_of p (i + 1)
  pub last : (i : ℕ) → i + 1 ≡ block_count p → i < length rows → slice_index rows i ≡ 0

-- the labels of the first n of these states
pub record AreLabels (m : Complete) (rows labels : List ℕ) (n : ℕ) : Type 0 where
  pub long : length labels ≡ n
  pub each : (i : ℕ) → i < n → slice_index labels i ≡ label_of m (slice_index rows i)

-- the first n of the blocks that they step to, row by row
pub record AreTargets (m : Complete) (p : Partition) (rows targets : List ℕ) (n : ℕ) : Type 0 where
  pub long : length targets ≡ n
  pub each : (i c : ℕ) → c < m.width → i * m.width + c < n → slice_index targets (i * m.width + c) ≡ block p (step_of m (slice_index rows i) c)
