-- Bytes that no rule takes.
use Rattle.std.specs.Prelude.{◌≡◌, ◌≢◌, ℕ, ◌<◌, Bool, [], ◌∷◌, None, length}
use Rattle.lx_automaton.specs.Automata.{Machine, answer}

-- In some condition, at line begin or elsewhere, a byte that is the whole text has no rule.
pub record IsUntaken (m : Machine) : Type 0 where
  pub condition : ℕ
  pub begin : Bool
  pub byte : ℕ
  pub known : condition < length m.starts
  pub small : byte < 256
  pub none : answer m condition begin (byte ∷ []) ≡ None

-- In this condition each byte has one.
pub record TakesAll (m : Machine) (condition : ℕ) (begin : Bool) : Type 0 where
  pub each : (byte : ℕ) → byte < 256 → answer m condition begin (byte ∷ []) ≢ None
