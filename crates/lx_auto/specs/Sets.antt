-- The results for a set of positions, and for a start.
use Rattle.std.specs.Prelude.{ℕ, ◌<◌, ◌↔◌, Bool, List, Option, Contains, MatchOption}
use Rattle.lx_rules.specs.Plain.{PlainSpec}
use Rattle.lx_auto.specs.PositionSets.{NumberedRule}
use Rattle.lx_auto.specs.SetSteps.{IsFirstAt, FollowsSet, IsMatchedBy, IsRising}

-- the positions that can come after those of the set, in ascending order
pub record AreFollowing (rules : List NumberedRule) (S F : List ℕ) : Type 0 where
  pub rising : IsRising F
  pub each : (q : ℕ) → Contains F q ↔ FollowsSet rules S q

-- the positions with which an active rule can begin, in ascending order
pub record AreFirst (spec : PlainSpec) (rules : List NumberedRule) (condition : ℕ) (begin : Bool) (F : List ℕ) : Type 0 where
  pub rising : IsRising F
  pub each : (q : ℕ) → Contains F q ↔ IsFirstAt spec rules condition begin q

-- the earliest rule of which a position of the set ends a word, or no rule
abbrev pub IsEarliestMatched : List NumberedRule → List ℕ → Option ℕ → Type 0
IsEarliestMatched rules S found =
    MatchOption found ((j : ℕ) → IsMatchedBy rules S j → ⊥) (λ i. IsMatchedBy rules S i × ((j : ℕ) → j < i → IsMatchedBy rules S j → ⊥))

-- all members are below the total
abbrev pub AreBelow : List ℕ → ℕ → Type 0
AreBelow S total = (q : ℕ) → Contains S q → q < total
