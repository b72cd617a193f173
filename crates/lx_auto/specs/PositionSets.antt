-- The position sets of the starts and words of a specification: from each, the positions that can have matched the last byte.
use Rattle.std.specs.Prelude.{◌≡◌, ◌≢◌, ℕ, ◌+◌, ◌<◌, ◌⊎◌, ◌↔◌, Bool, true, false, IsTrue, List, [], ◌∷◌, ◌++◌, length, slice_get, Some, All}
use Rattle.lx_ere.specs.Regex.{Regex}
use Rattle.lx_rules.specs.Plain.{PlainRule, PlainSpec}
use Rattle.lx_auto.specs.Unfolded.{Unfolded, position_count, PositionWord}
use Rattle.lx_auto.specs.WrittenOut.{pattern_written_out}
use Rattle.lx_auto.specs.Counts.{newline_count}
use Rattle.lx_auto.specs.Positions.{HasByte, Spells}
use Rattle.lx_rules.specs.Starts.{IsActiveAt}

-- a rule whose positions are numbered from the base on
pub record NumberedRule : Type 0 where
  pub rule : PlainRule
  pub tree : Unfolded
  pub base : ℕ

-- the newline of a line end comes after all other positions of its rule
abbrev pub newline_of : NumberedRule → ℕ
newline_of r = r.base + position_count r.tree

abbrev pub size_of : NumberedRule → ℕ
size_of r = position_count r.tree + newline_count r.rule.reading.line_end

-- the rules, each numbered after the previous one
abbrev pub numbered : (Regex → Unfolded) → ℕ → List PlainRule → List NumberedRule
numbered tree_of base [] = []
numbered tree_of base (rule ∷ rules) =
    record { rule = rule; tree = tree_of rule.reading.tree; base = base }
    ∷ numbered tree_of (base + (position_count (tree_of rule.reading.tree) + newline_count rule.reading.line_end)) rules

abbrev pub rules_of : PlainSpec → List NumberedRule
rules_of spec = numbered (pattern_written_out spec.definitions) 0 spec.rules

-- with a line end, a word of the pattern that isn't empty, and then the newline
abbrev pub WordWithEnd : Bool → NumberedRule → List ℕ → Type 0
WordWithEnd false r ps = PositionWord r.tree r.base ps
WordWithEnd true r ps = (us : List ℕ) × PositionWord r.tree r.base us × (us ≢ []) × (ps ≡ us ++ newline_of r ∷ [])

abbrev pub RuleWord : NumberedRule → List ℕ → Type 0
RuleWord r ps = WordWithEnd r.rule.reading.line_end r ps

-- the position p of the rule has the byte b
abbrev pub HasRuleByte : NumberedRule → ℕ → ℕ → Type 0
HasRuleByte r p b = HasByte r.tree r.base p b ⊎ (IsTrue r.rule.reading.line_end × (p ≡ newline_of r) × (b ≡ 10))

-- q is the last position of a list that spells the word and that is a prefix of a word of positions of the rule
pub record EndsRulePrefix (r : NumberedRule) (w : List ℕ) (q : ℕ) : Type 0 where
  pub before : List ℕ
  pub behind : List ℕ
  pub word : RuleWord r ((before ++ q ∷ []) ++ behind)
  pub spelled : Spells (HasRuleByte r) (before ++ q ∷ []) w

-- q can have matched the last byte of the word from this start, by a rule that is active there
pub record CanHaveReadLast (spec : PlainSpec) (rules : List NumberedRule) (condition : ℕ) (begin : Bool) (w : List ℕ) (q : ℕ) : Type 0 where
  pub place : ℕ
  pub rule : NumberedRule
  pub at : slice_get rules place ≡ Some rule
  pub active : IsActiveAt spec rule.rule condition begin
  pub ends : EndsRulePrefix rule w q

-- a start, and a word of bytes read from it
pub record StartAndWord : Type 0 where
  pub condition : ℕ
  pub begin : Bool
  pub word : List ℕ

-- the positions that the word leads to from its start
abbrev pub InPositionSet : PlainSpec → List NumberedRule → StartAndWord → ℕ → Type 0
InPositionSet spec rules x q = CanHaveReadLast spec rules x.condition x.begin x.word q

abbrev pub HaveSameSet : PlainSpec → List NumberedRule → StartAndWord → StartAndWord → Type 0
HaveSameSet spec rules x y = (q : ℕ) → InPositionSet spec rules x q ↔ InPositionSet spec rules y q

-- There are more than n reached sets: n + 1 pairs of a start and a word have non-empty sets, of which no two are equal.
pub record ReachesMoreThan (spec : PlainSpec) (rules : List NumberedRule) (n : ℕ) : Type 0 where
  pub pairs : List StartAndWord
  pub count : length pairs ≡ n + 1
  pub starts : (i : ℕ) (x : StartAndWord) → slice_get pairs i ≡ Some x → x.condition < length spec.conditions
  pub bytes : (i : ℕ) (x : StartAndWord) → slice_get pairs i ≡ Some x → All (λ b. b < 256) x.word
  pub filled : (i : ℕ) (x : StartAndWord) → slice_get pairs i ≡ Some x → (q : ℕ) × InPositionSet spec rules x q
  pub apart : (i j : ℕ) (x y : StartAndWord) → i < j → slice_get pairs i ≡ Some x → slice_get pairs j ≡ Some y → HaveSameSet spec rules x y → ⊥

abbrev pub HasMoreReachedSets : PlainSpec → ℕ → Type 0
HasMoreReachedSets spec n = ReachesMoreThan spec (rules_of spec) n
