-- The draft of an automaton: the states are first the starts, for each condition without line begin and then at line begin, and then
-- the position sets in the order of their numbers.
use Rattle.std.specs.Prelude.{◌≡◌, ℕ, ◌+◌, ◌*◌, ◌<◌, ◌++◌, Bool, List, length, map, replicate, slice_index_or, Option, None, IfSome}
use Rattle.std.specs.Option.{option_map}
use Rattle.lx_automaton.specs.Automata.{Machine, start_of}
use Rattle.lx_auto.specs.Exploring.{start_number}

-- The draft over `conditions` conditions: no start accepts a rule, each set accepts the rule that it matches, and a step to set j leads to its state.
pub record IsDrafted (conditions : ℕ) (classes : List ℕ) (width : ℕ) (matched targets : List (Option ℕ)) (m : Machine) : Type 0 where
  pub conditions_are : length m.starts ≡ conditions
  pub starts_are : (c : ℕ) (begin : Bool) → c < conditions → start_of m c begin ≡ start_number c begin
  pub classes_are : m.classes ≡ classes
  pub width_is : m.width ≡ width
  pub accepted_are : m.accepted ≡ replicate (2 * conditions) None ++ matched
  pub targets_are : m.targets ≡ map (option_map (λ j. 2 * conditions + j)) targets

-- the states of the starts of the first n conditions
pub record AreStartStates (starts : List (ℕ × ℕ)) (n : ℕ) : Type 0 where
  pub long : length starts ≡ n
  pub each : (c : ℕ) → c < n → slice_index_or starts c (0, 0) ≡ (2 * c, 2 * c + 1)

-- each number that is there is below the bound
abbrev pub AreAllBelow : List (Option ℕ) → ℕ → Type 0
AreAllBelow numbers bound = (i : ℕ) → i < length numbers → IfSome (slice_index_or numbers i None) (λ n. n < bound)
