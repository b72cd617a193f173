-- Positions between two members of a set.
use Rattle.std.specs.Prelude.{ℕ, ◌<◌, ◌≤◌, List, length, slice_index}
use Rattle.lx_auto.specs.declared.sets.bare.Bare.{Bare}

-- `passed` members of the set are before the first of these positions, and the next member isn't before their end
pub record IsBareIn (S : List ℕ) (bare : Bare) : Type 0 where
  pub within : bare.passed ≤ length S
  pub before : (j : ℕ) → j < bare.passed → slice_index S j < bare.from
  pub behind : bare.passed < length S → bare.until ≤ slice_index S bare.passed
