-- Steps from a set of positions to those that can be read next, and to the rules that have matched.
use Rattle.std.specs.Prelude.{◌≡◌, ℕ, ◌<◌, ◌↔◌, Bool, List, length, slice_index, slice_get, Some, Contains}
use Rattle.lx_rules.specs.Plain.{PlainSpec}
use Rattle.lx_auto.specs.Positions.{First}
use Rattle.lx_rules.specs.Starts.{IsActiveAt}
use Rattle.lx_auto.specs.PositionSets.{NumberedRule, HasRuleByte, StartAndWord, InPositionSet}
use Rattle.lx_auto.specs.RuleReach.{RuleFollow, IsFinal}

-- one of the rules has the byte at this position
pub record HasSomeByte (rules : List NumberedRule) (q b : ℕ) : Type 0 where
  pub place : ℕ
  pub rule : NumberedRule
  pub at : slice_get rules place ≡ Some rule
  pub has : HasRuleByte rule q b

-- a rule that is active at the start can begin with this position
pub record IsFirstAt (spec : PlainSpec) (rules : List NumberedRule) (condition : ℕ) (begin : Bool) (q : ℕ) : Type 0 where
  pub place : ℕ
  pub rule : NumberedRule
  pub at : slice_get rules place ≡ Some rule
  pub active : IsActiveAt spec rule.rule condition begin
  pub first : First rule.tree rule.base q

-- this position can come after one of the set in a rule
pub record FollowsSet (rules : List NumberedRule) (S : List ℕ) (q : ℕ) : Type 0 where
  pub place : ℕ
  pub rule : NumberedRule
  pub at : slice_get rules place ≡ Some rule
  pub from : ℕ
  pub within : Contains S from
  pub follow : RuleFollow rule from q

-- a position of the set can end a word of rule i
pub record IsMatchedBy (rules : List NumberedRule) (S : List ℕ) (i : ℕ) : Type 0 where
  pub rule : NumberedRule
  pub at : slice_get rules i ≡ Some rule
  pub last : ℕ
  pub within : Contains S last
  pub final : IsFinal rule last

-- the list is the position set of a start and a word
abbrev pub IsSetOf : PlainSpec → List NumberedRule → StartAndWord → List ℕ → Type 0
IsSetOf spec rules x S = (q : ℕ) → Contains S q ↔ InPositionSet spec rules x q

-- each number is greater than the one before
abbrev pub IsRising : List ℕ → Type 0
IsRising S = (i j : ℕ) → i < j → j < length S → slice_index S i < slice_index S j
