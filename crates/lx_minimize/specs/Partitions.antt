-- Partitions of the states into blocks that are only split if a word distinguishes states.
use Rattle.std.specs.Prelude.{◌≡◌, ◌≢◌, ℕ, ◌+◌, ◌-◌, ◌<◌, ◌≤◌, Bool, true, false, List, length, slice_index, slice_index_or}
use Rattle.lx_minimize.specs.Completion.{total, label_of, step_of, AreDistinguishableByClasses}
use Rattle.lx_minimize.specs.declared.complete.Complete.{Complete}
use Rattle.lx_minimize.specs.declared.partition.Partition.{Partition}

abbrev pub block : Partition → ℕ → ℕ
block p s = slice_index p.block_of.items s

abbrev pub block_count : Partition → ℕ
block_count p = length p.representatives.items

-- the representative of a block
abbrev pub member_of : Partition → ℕ → ℕ
member_of p b = slice_index p.representatives.items b

-- each state is in a block, each block has a representative, state 0 is in block 0, some word distinguishes states of different blocks, and those of
-- one block have one label
pub record IsSound (m : Complete) (p : Partition) : Type 0 where
  pub long : length p.block_of.items ≡ total m
  pub below : (s : ℕ) → s < total m → block p s < block_count p
  pub member : (b : ℕ) → b < block_count p → member_of p b < total m
  pub within : (b : ℕ) → b < block_count p → block p (member_of p b) ≡ b
  pub first : block p 0 ≡ 0
  pub distinguishable : (s t : ℕ) → s < total m → t < total m → block p s ≢ block p t → AreDistinguishableByClasses m s t
  pub labels : (s t : ℕ) → s < total m → t < total m → block p s ≡ block p t → label_of m s ≡ label_of m t

-- s and its representative step to the same blocks, on the classes below n
abbrev pub StepsLikeRepresentative : Complete → Partition → ℕ → ℕ → Type 0
StepsLikeRepresentative m p s n = (c : ℕ) → c < n → block p (step_of m s c) ≡ block p (step_of m (member_of p (block p s)) c)

-- states of one block step to the same blocks
pub record IsStable (m : Complete) (p : Partition) : Type 0 where
  pub steps : (s t c : ℕ) → s < total m → t < total m → c < m.width → block p s ≡ block p t → block p (step_of m s c) ≡ block p (step_of m t c)

-- the states below n have been given blocks by their labels
pub record AreLabelledBelow (m : Complete) (n : ℕ) (blocks representatives : List ℕ) : Type 0 where
  pub long : length blocks ≡ n
  pub few : length representatives ≤ n
  pub below : (s : ℕ) → s < n → slice_index blocks s < length representatives
  pub member : (b : ℕ) → b < length representatives → slice_index representatives b < n
  pub within : (b : ℕ) → b < length representatives → slice_index blocks (slice_index representatives b) ≡ b
  pub first : 0 < n → slice_index blocks 0 ≡ 0
  pub labels : (s : ℕ) → s < n → label_of m (slice_index representatives (slice_index blocks s)) ≡ label_of m s
  pub apart : (a b : ℕ) → a < length representatives → b < length representatives →
      label_of m (slice_index representatives a) ≡ label_of m (slice_index representatives b) → a ≡ b

-- the block of each label, encoded: 0 if no block has it, otherwise one more
pub record AreBlocksByLabel (m : Complete) (representatives blocks : List ℕ) : Type 0 where
  pub long : (s : ℕ) → s < total m → label_of m s < length blocks
  pub known : (b : ℕ) → b < length representatives → slice_index blocks (label_of m (slice_index representatives b)) ≡ b + 1
  pub below : (l : ℕ) → slice_index blocks l ≤ length representatives
  pub found : (l : ℕ) → slice_index blocks l ≢ 0 → label_of m (slice_index representatives (slice_index blocks l - 1)) ≡ l

-- true if a state is in a set, kept as flags
abbrev pub flag : List Bool → ℕ → Bool
flag inside s = slice_index_or inside s false

-- a set such that a word distinguishes each of its states from each state outside
pub record IsSplitter (m : Complete) (inside : List Bool) : Type 0 where
  pub long : length inside ≡ total m
  pub distinguishable : (s t : ℕ) → s < total m → t < total m → flag inside s ≢ flag inside t → AreDistinguishableByClasses m s t

-- the flags of a block, of the states below n
pub record AreFlags (blocks : List ℕ) (number n : ℕ) (flags : List Bool) : Type 0 where
  pub long : length flags ≡ n
  pub inside : (s : ℕ) → s < n → slice_index blocks s ≡ number → flag flags s ≡ true
  pub outside : (s : ℕ) → s < n → slice_index blocks s ≢ number → flag flags s ≡ false

-- a state that is moved out of the block: it steps into the set, or out of it if wanted is false
pub record IsMoved (m : Complete) (blocks : List ℕ) (inside : List Bool) (from class : ℕ) (wanted : Bool) (s : ℕ) : Type 0 where
  pub within : slice_index blocks s ≡ from
  pub target : flag inside (step_of m s class) ≡ wanted

-- a state of the block that isn't moved, and so remains in it
pub record IsRemaining (m : Complete) (blocks : List ℕ) (inside : List Bool) (from class : ℕ) (wanted : Bool) (s : ℕ) : Type 0 where
  pub within : slice_index blocks s ≡ from
  pub target : flag inside (step_of m s class) ≢ wanted

-- the list has exactly the moved states below n
pub record AreMovedStates (m : Complete) (blocks : List ℕ) (inside : List Bool) (from class : ℕ) (wanted : Bool) (n : ℕ) (moved_states : List ℕ) : Type 0 where
  pub below : (j : ℕ) → j < length moved_states → slice_index moved_states j < n
  pub each : (j : ℕ) → j < length moved_states → IsMoved m blocks inside from class wanted (slice_index moved_states j)
  pub all : (s : ℕ) → s < n → IsMoved m blocks inside from class wanted s → (j : ℕ) × (j < length moved_states) × (slice_index moved_states j ≡ s)

-- the first n states of the list have the fresh number, and the others their old one
pub record AreRenumbered (old new moved_states : List ℕ) (fresh n : ℕ) : Type 0 where
  pub long : length new ≡ length old
  pub moved : (j : ℕ) → j < n → slice_index new (slice_index moved_states j) ≡ fresh
  pub other : (s : ℕ) → ((j : ℕ) → j < n → slice_index moved_states j ≢ s) → slice_index new s ≡ slice_index old s

-- all states of the block step into the set, or all step out of it
pub record IsStableBlock (m : Complete) (blocks : List ℕ) (inside : List Bool) (from class : ℕ) : Type 0 where
  pub stable : (s t : ℕ) → s < total m → t < total m → slice_index blocks s ≡ from → slice_index blocks t ≡ from →
      flag inside (step_of m s class) ≡ flag inside (step_of m t class)
