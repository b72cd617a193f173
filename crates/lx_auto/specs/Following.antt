-- From the positions that are marked to those that can be read next, rule by rule.
use Rattle.std.specs.Prelude.{◌≡◌, ℕ, ◌+◌, ◌<◌, ◌≤◌, ◌↔◌, ◌⊎◌, Bool, true, List, length, slice_get, Option, Some, None, MatchOption}
use Rattle.lx_rules.specs.Plain.{PlainSpec}
use Rattle.lx_auto.specs.Positions.{First}
use Rattle.lx_rules.specs.Starts.{IsActiveAt}
use Rattle.lx_auto.specs.PositionSets.{NumberedRule, size_of}
use Rattle.lx_auto.specs.RuleReach.{RuleFollow, IsFinal}
use Rattle.lx_auto.specs.Marking.{flag}

abbrev pub InRange : NumberedRule → ℕ → Type 0
InRange r q = (r.base ≤ q) × (q < r.base + size_of r)

-- the rules of a specification, numbered so that their ranges come one after the other
pub record AreNumbered (spec : PlainSpec) (rules : List NumberedRule) : Type 0 where
  pub rule_of : (i : ℕ) (r : NumberedRule) → slice_get rules i ≡ Some r → slice_get spec.rules i ≡ Some r.rule
  pub apart : (i j : ℕ) (r s : NumberedRule) → i < j → slice_get rules i ≡ Some r → slice_get rules j ≡ Some s → r.base + size_of r ≤ s.base

-- q can come after one of the marked positions in the rule
abbrev pub FollowsMarked : List Bool → NumberedRule → ℕ → Type 0
FollowsMarked marks r q = (p : ℕ) × (flag marks p ≡ true) × RuleFollow r p q

-- a marked position ends a word of the rule
abbrev pub EndsMarked : List Bool → NumberedRule → Type 0
EndsMarked marks r = (q : ℕ) × (flag marks q ≡ true) × IsFinal r q

-- the rule is active at the start, and can begin with q
abbrev pub BeginsWith : PlainSpec → ℕ → Bool → NumberedRule → ℕ → Type 0
BeginsWith spec condition begin r q = IsActiveAt spec r.rule condition begin × First r.tree r.base q

-- one of the first n rules can read q
pub record IsReadBelow (Reads : NumberedRule → ℕ → Type 0) (rules : List NumberedRule) (n q : ℕ) : Type 0 where
  pub place : ℕ
  pub below : place < n
  pub rule : NumberedRule
  pub at : slice_get rules place ≡ Some rule
  pub reads : Reads rule q

-- the flags are true for the positions that the first n rules can read
pub record AreReadBelow (Reads : NumberedRule → ℕ → Type 0) (rules : List NumberedRule) (n : ℕ) (reads : List Bool) : Type 0 where
  pub each : (q : ℕ) → (flag reads q ≡ true) ↔ IsReadBelow Reads rules n q

-- the flags of the rule's range are true for its positions that can be read; all others are as they were
pub record ReadsRule (Reads : NumberedRule → ℕ → Type 0) (r : NumberedRule) (old new : List Bool) : Type 0 where
  pub long : length new ≡ length old
  pub own : (q : ℕ) → r.base ≤ q → q < r.base + size_of r → (flag new q ≡ true) ↔ Reads r q
  pub below : (q : ℕ) → q < r.base → flag new q ≡ flag old q
  pub above : (q : ℕ) → r.base + size_of r ≤ q → flag new q ≡ flag old q

-- the rule was visited, or it can read nothing and the flags are as they were
abbrev pub ReadsOrStays : (NumberedRule → ℕ → Type 0) → NumberedRule → List Bool → List Bool → Type 0
ReadsOrStays Reads r old new = ReadsRule Reads r old new ⊎ ((new ≡ old) × ((q : ℕ) → Reads r q → ⊥))

-- rule i has matched: one of its final positions is marked
pub record IsMatchedAt (rules : List NumberedRule) (marks : List Bool) (i : ℕ) : Type 0 where
  pub rule : NumberedRule
  pub at : slice_get rules i ≡ Some rule
  pub ends : EndsMarked marks rule

-- the first of the first n rules that has matched, if one has
abbrev pub IsFirstMatchedBelow : List NumberedRule → List Bool → ℕ → Option ℕ → Type 0
IsFirstMatchedBelow rules marks n found =
    MatchOption found ((j : ℕ) → j < n → IsMatchedAt rules marks j → ⊥)
    (λ i. (i < n) × IsMatchedAt rules marks i × ((j : ℕ) → j < i → IsMatchedAt rules marks j → ⊥))

abbrev pub first_or : Option ℕ → ℕ → Option ℕ
first_or None n = Some n
first_or (Some i) n = Some i
