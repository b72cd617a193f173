-- No state of an automaton is useless: a text leads to each.
use Rattle.std.specs.Prelude.{◌≡◌, ℕ, ◌<◌, Bool, List, length, Some, All}
use Rattle.lx_automaton.specs.Automata.{Machine, state_count, start_of, state_after}

-- this text of bytes leads to the state, from the start of some condition, at line begin or elsewhere
pub record IsLedTo (m : Machine) (s : ℕ) : Type 0 where
  pub condition : ℕ
  pub begin : Bool
  pub text : List ℕ
  pub there : condition < length m.starts
  pub bytes : All (λ b. b < 256) text
  pub leads : state_after m (Some (start_of m condition begin)) text ≡ Some s

-- a text leads to each state
pub record AreAllLedTo (m : Machine) : Type 0 where
  pub each : (s : ℕ) → s < state_count m → IsLedTo m s
