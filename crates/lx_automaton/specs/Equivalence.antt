-- States that no word of bytes distinguishes, and automata without two such states (Moore 1956, Hopcroft 1971).
use Rattle.std.specs.Prelude.{◌≡◌, ◌≢◌, ℕ, ◌<◌, Bool, List, length, All, Some, None}
use Rattle.lx_automaton.specs.Automata.{Machine, state_count, target_of, answer_from, answer}

-- a word of bytes after which two states answer differently
pub record AreDistinguishable (m : Machine) (s t : ℕ) : Type 0 where
  pub word : List ℕ
  pub bytes : All (λ b. b < 256) word
  pub differ : answer_from m s word ≢ answer_from m t word

-- a word of bytes leads from the state to one that accepts
pub record IsLive (m : Machine) (s : ℕ) : Type 0 where
  pub word : List ℕ
  pub bytes : All (λ b. b < 256) word
  pub accepts : answer_from m s word ≢ None

-- two automata answer alike in every condition, at the beginning of a line or elsewhere, after every word of bytes
pub record AreEquivalentMachines (m q : Machine) : Type 0 where
  pub answers : (c : ℕ) (begin : Bool) (w : List ℕ) → c < length m.starts → All (λ b. b < 256) w → answer q c begin w ≡ answer m c begin w

-- any two states are distinguishable
pub record IsMinimal (m : Machine) : Type 0 where
  pub distinguishable : (s t : ℕ) → s < state_count m → t < state_count m → s ≢ t → AreDistinguishable m s t

-- each step leads to a live state
pub record HasLiveSteps (m : Machine) : Type 0 where
  pub live : (s b t : ℕ) → s < state_count m → b < 256 → target_of m s b ≡ Some t → IsLive m t
