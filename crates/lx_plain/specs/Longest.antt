-- The greatest number of bytes that one rule fits.
use Rattle.std.specs.Prelude.{ℕ, ◌≤◌, Bool, List, Option, MatchOption}
use Rattle.lx_rules.specs.Choice.{Fits}
use Rattle.lx_rules.specs.Plain.{PlainRule, PlainSpec}

-- The rule fits n bytes, and no more than n.
pub record FitsAtMost (spec : PlainSpec) (rule : PlainRule) (condition : ℕ) (begin : Bool) (text : List ℕ) (n : ℕ) : Type 0 where
  pub fits : Fits spec rule condition begin text n
  pub most : (m : ℕ) → Fits spec rule condition begin text m → m ≤ n

-- the greatest number of bytes that the rule fits; none if it fits none
abbrev pub IsLongest : PlainSpec → PlainRule → ℕ → Bool → List ℕ → Option ℕ → Type 0
IsLongest spec rule condition begin text found =
    MatchOption found ((m : ℕ) → Fits spec rule condition begin text m → ⊥) (λ n. FitsAtMost spec rule condition begin text n)
