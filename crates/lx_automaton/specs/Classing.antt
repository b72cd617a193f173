-- Byte classes out of provisional ones, as they are numbered.
use Rattle.std.specs.Prelude.{◌≡◌, ℕ, ◌+◌, ◌*◌, ◌<◌, ◌≤◌, IsTrue, List, length, slice_index}
use Rattle.lx_automaton.specs.Automata.{Machine, state_count, class_target, are_numbered}
use Rattle.lx_automaton.specs.EncodedOptions.{decoded_option}

-- every state steps alike on the two classes
pub record HasSameColumns (m : Machine) (c d : ℕ) : Type 0 where
  pub same : (s : ℕ) → s < state_count m → class_target m s c ≡ class_target m s d

-- the class of byte b has the column of the representative of b's number
pub record HasItsColumn (m : Machine) (numbers representatives : List ℕ) (b : ℕ) : Type 0 where
  pub below : slice_index numbers b < length representatives
  pub columns : HasSameColumns m (slice_index representatives (slice_index numbers b)) (slice_index m.classes b)

-- the bytes below n are numbered, each by its column, in order of their least bytes
pub record AreNumbersBelow (m : Machine) (n : ℕ) (numbers representatives : List ℕ) : Type 0 where
  pub long : length numbers ≡ n
  pub few : length representatives ≤ n
  pub classes : (j : ℕ) → j < length representatives → slice_index representatives j < m.width
  pub each : (b : ℕ) → b < n → HasItsColumn m numbers representatives b
  pub apart : (i j : ℕ) → i < length representatives → j < length representatives →
      HasSameColumns m (slice_index representatives i) (slice_index representatives j) → i ≡ j
  pub numbered : IsTrue (are_numbered 0 (length representatives) numbers)

-- the number of a class: of a representative with its column, else the next one
pub record IsNumberFor (m : Machine) (representatives : List ℕ) (class number : ℕ) : Type 0 where
  pub at_most : number ≤ length representatives
  pub found : number < length representatives → HasSameColumns m (slice_index representatives number) class
  pub fresh : number ≡ length representatives → (j : ℕ) → j < length representatives → HasSameColumns m (slice_index representatives j) class → ⊥

-- the first n encoded targets of the rows over the representatives
pub record AreRows (m : Machine) (representatives encoded : List ℕ) (n : ℕ) : Type 0 where
  pub long : length encoded ≡ n
  pub each : (s j : ℕ) → j < length representatives → s * length representatives + j < n →
      decoded_option (slice_index encoded (s * length representatives + j)) ≡ class_target m s (slice_index representatives j)
