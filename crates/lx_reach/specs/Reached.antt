-- The states of an automaton to which texts lead from a range of conditions.
use Rattle.std.specs.Prelude.{◌≡◌, ◌≢◌, ℕ, ◌+◌, ◌-◌, ◌<◌, ◌≤◌, ◌==◌, if◌then◌else◌, Bool, All, List, [], ◌∷◌, Some, length, slice_index}
use Rattle.lx_automaton.specs.Automata.{Machine, start_of, target_of, state_after}

-- the number of zeros among the numbers
abbrev pub zeros : List ℕ → ℕ
zeros [] = 0
zeros (word ∷ words) = (if word == 0 then 1 else 0) + zeros words

-- The met states, in that order; and for each state 0 before it is met, then one more than its place among them.
pub record AreMet (met places : List ℕ) : Type 0 where
  pub room : length met + zeros places ≡ length places
  pub below : (i : ℕ) → i < length met → slice_index met i < length places
  pub placed : (i : ℕ) → i < length met → slice_index places (slice_index met i) ≡ i + 1
  pub within : (s : ℕ) → s < length places → slice_index places s ≢ 0 → slice_index places s ≤ length met
  pub found : (s : ℕ) → s < length places → slice_index places s ≢ 0 → slice_index met (slice_index places s - 1) ≡ s

-- one of the conditions from the first one up to the end begins in the state, at line begin or elsewhere
pub record IsStart (m : Machine) (first end s : ℕ) : Type 0 where
  pub condition : ℕ
  pub begin : Bool
  pub from : first ≤ condition
  pub before : condition < end
  pub is : s ≡ start_of m condition begin

-- a byte leads from s to t
pub record IsTarget (m : Machine) (s t : ℕ) : Type 0 where
  pub byte : ℕ
  pub below : byte < 256
  pub leads : target_of m s byte ≡ Some t

-- a text of at least n bytes leads from such a start to the state
pub record IsReached (m : Machine) (first end n t : ℕ) : Type 0 where
  pub condition : ℕ
  pub begin : Bool
  pub text : List ℕ
  pub from : first ≤ condition
  pub before : condition < end
  pub bytes : All (λ b. b < 256) text
  pub long : n ≤ length text
  pub leads : state_after m (Some (start_of m condition begin)) text ≡ Some t

-- the second places mark the targets of the states that the first ones mark
pub record AreTargets (m : Machine) (from to : List ℕ) : Type 0 where
  pub only : (t : ℕ) → slice_index to t ≢ 0 → (s : ℕ) × (slice_index from s ≢ 0) × IsTarget m s t
  pub all : (s t : ℕ) → slice_index from s ≢ 0 → IsTarget m s t → slice_index to t ≢ 0
