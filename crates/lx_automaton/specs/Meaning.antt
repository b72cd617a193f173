-- The answer of an automaton of a specification after a text: the earliest rule that fits so that its reach is the whole text.
use Rattle.std.specs.Prelude.{◌≡◌, ℕ, ◌<◌, Bool, List, length, slice_get, Option, Some, MatchOption, All}
use Rattle.lx_rules.specs.Plain.{PlainRule, PlainSpec}
use Rattle.lx_rules.specs.Choice.{Fits, reach}
use Rattle.lx_automaton.specs.Automata.{Machine, answer}

-- rule i fits under the condition, and its reach is the whole text
pub record ReachesWhole (spec : PlainSpec) (condition : ℕ) (begin : Bool) (text : List ℕ) (i : ℕ) : Type 0 where
  pub rule : PlainRule
  pub at : slice_get spec.rules i ≡ Some rule
  pub bytes : ℕ
  pub fits : Fits spec rule condition begin text bytes
  pub whole : reach rule bytes ≡ length text

-- the earliest rule that does, or none; none after the empty text
abbrev pub IsAnswer : PlainSpec → ℕ → Bool → List ℕ → Option ℕ → Type 0
IsAnswer spec condition begin text found =
    MatchOption found ((j : ℕ) → ReachesWhole spec condition begin text j → ⊥)
    (λ i. ReachesWhole spec condition begin text i × ((j : ℕ) → j < i → ReachesWhole spec condition begin text j → ⊥))

-- An automaton of a specification: from every start condition, at line begin or elsewhere, it has the right answer after every text.
pub record IsAutomatonOf (spec : PlainSpec) (m : Machine) : Type 0 where
  pub conditions : length m.starts ≡ length spec.conditions
  pub answers : (condition : ℕ) (begin : Bool) (text : List ℕ) → condition < length spec.conditions → All (λ b. b < 256) text →
      IsAnswer spec condition begin text (answer m condition begin text)
