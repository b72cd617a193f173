-- The positions of a rule that a word reaches, step by step.
use Rattle.std.specs.Prelude.{◌≡◌, ◌≢◌, ℕ, ◌⊎◌, Bool, true, false, IsTrue, List, [], ◌∷◌, ◌++◌}
use Rattle.lx_auto.specs.Unfolded.{ByteWord}
use Rattle.lx_auto.specs.Positions.{Last, Follow, IsReached}
use Rattle.lx_auto.specs.PositionSets.{NumberedRule, newline_of, HasRuleByte}

-- q comes directly after p in a word of the rule
abbrev pub RuleFollow : NumberedRule → ℕ → ℕ → Type 0
RuleFollow r p q = Follow r.tree r.base p q ⊎ (IsTrue r.rule.reading.line_end × Last r.tree r.base p × (q ≡ newline_of r))

-- a word of the rule ends with q
abbrev pub FinalWithEnd : Bool → NumberedRule → ℕ → Type 0
FinalWithEnd false r q = Last r.tree r.base q
FinalWithEnd true r q = q ≡ newline_of r

abbrev pub IsFinal : NumberedRule → ℕ → Type 0
IsFinal r q = FinalWithEnd r.rule.reading.line_end r q

-- the word is read up to q, a position of the pattern or the newline after it
abbrev pub IsReachedInRule : NumberedRule → List ℕ → ℕ → Type 0
IsReachedInRule r w q =
    IsReached (HasRuleByte r) r.tree r.base w q
    ⊎ (IsTrue r.rule.reading.line_end × (q ≡ newline_of r)
    × ((v : List ℕ) × (p : ℕ) × (w ≡ v ++ 10 ∷ []) × IsReached (HasRuleByte r) r.tree r.base v p × Last r.tree r.base p))

-- the rule matches the whole word; with a line end, a newline comes after the text of its pattern
abbrev pub WholeWithEnd : Bool → NumberedRule → List ℕ → Type 0
WholeWithEnd false r w = ByteWord r.tree r.base w × (w ≢ [])
WholeWithEnd true r w = (u : List ℕ) × ByteWord r.tree r.base u × (u ≢ []) × (w ≡ u ++ 10 ∷ [])

abbrev pub MatchesWhole : NumberedRule → List ℕ → Type 0
MatchesWhole r w = WholeWithEnd r.rule.reading.line_end r w
