-- An automaton without missing steps, over classes of bytes: state 0 represents a missing step, and s + 1 the state s.
use Rattle.std.specs.Prelude.{◌≡◌, ◌≢◌, ℕ, ◌+◌, ◌*◌, ◌<◌, ◌≤◌, List, [], ◌∷◌, length, slice_index, All}
use Rattle.lx_automaton.specs.Automata.{Machine, state_count, accepted_by, class_target}
use Rattle.lx_automaton.specs.EncodedOptions.{decoded_option}
use Rattle.lx_minimize.specs.declared.complete.Complete.{Complete}

abbrev pub total : Complete → ℕ
total m = length m.labels.items

abbrev pub label_of : Complete → ℕ → ℕ
label_of m s = slice_index m.labels.items s

abbrev pub step_of : Complete → ℕ → ℕ → ℕ
step_of m s c = slice_index m.next.items (s * m.width + c)

-- the most states of such an automaton: that of missing steps is one more
abbrev pub max_complete_states : ℕ
max_complete_states = 16513

-- every state steps to a state on every class; state 0 accepts nothing and steps to itself
pub record IsComplete (m : Complete) : Type 0 where
  pub rows : length m.next.items ≡ total m * m.width
  pub closed : (s c : ℕ) → s < total m → c < m.width → step_of m s c < total m
  pub some : 0 < total m
  pub small : total m ≤ max_complete_states
  pub narrow : m.width ≤ 256
  pub unlabelled : label_of m 0 ≡ 0
  pub stays : (c : ℕ) → c < m.width → step_of m 0 c ≡ 0

-- the state after a word of classes
abbrev pub after : Complete → ℕ → List ℕ → ℕ
after m s [] = s
after m s (c ∷ w) = after m (step_of m s c) w

-- a word of classes after which the two have different labels
pub record AreDistinguishableByClasses (m : Complete) (s t : ℕ) : Type 0 where
  pub word : List ℕ
  pub classes : All (λ c. c < m.width) word
  pub differ : label_of m (after m s word) ≢ label_of m (after m t word)

-- m completes the automaton a
pub record IsCompletion (a : Machine) (m : Complete) : Type 0 where
  pub complete : IsComplete m
  pub width : m.width ≡ a.width
  pub states : total m ≡ state_count a + 1
  pub labels : (s : ℕ) → s < state_count a → decoded_option (label_of m (s + 1)) ≡ accepted_by a s
  pub steps : (s c : ℕ) → s < state_count a → c < a.width → decoded_option (step_of m (s + 1) c) ≡ class_target a s c
