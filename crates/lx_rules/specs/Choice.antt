-- The rule that a scanner chooses, and the part of the text that it takes (XCU `lex`, "Rules in lex").
use Rattle.std.specs.Prelude.{◌≡◌, ℕ, ◌+◌, ◌<◌, ◌≤◌, ◌⊎◌, Bool, false, IsTrue, if◌then◌else◌, List, Option, Some, MatchOption, Contains, slice_get, length, take}
use Rattle.std.specs.Option.{option_map}
use Rattle.lx_ere.specs.Matching.{Matches}
use Rattle.lx_rules.specs.Limits.{max_name_depth}
use Rattle.lx_rules.specs.Names.{NameMatches}
use Rattle.lx_rules.specs.Plain.{PlainRule, PlainSpec}

-- A rule with a list of conditions is active in those, and a rule without one in each condition that isn't exclusive.
abbrev pub IsActive : PlainSpec → PlainRule → ℕ → Type 0
IsActive spec rule condition =
    MatchOption rule.conditions (option_map (λ c. c.exclusive) (slice_get spec.conditions condition) ≡ Some false) (λ list. Contains list condition)

-- the words that a name of the specification matches: names are nested at most `max_name_depth` deep
unfoldable pub SpecNames : PlainSpec → List ℕ → List ℕ → Type 0
SpecNames spec = NameMatches spec.definitions max_name_depth

-- The rule fits the first n bytes of the text under the condition. `begin` is true if the text is at line begin.
pub record Fits (spec : PlainSpec) (rule : PlainRule) (condition : ℕ) (begin : Bool) (text : List ℕ) (n : ℕ) : Type 0 where
  pub active : IsActive spec rule condition
  pub line_begin : IsTrue rule.reading.line_begin → IsTrue begin
  pub not_empty : 0 < n
  pub within : n ≤ length text
  pub matches : Matches (SpecNames spec) rule.reading.tree (take n text)
  pub line_end : IsTrue rule.reading.line_end → slice_get text n ≡ Some 10

-- the reach of a fit of n bytes: with `$` the newline counts
abbrev pub reach : PlainRule → ℕ → ℕ
reach rule n = if rule.reading.line_end then n + 1 else n

-- No rule fits any bytes at the front of the text.
abbrev pub NothingFits : PlainSpec → ℕ → Bool → List ℕ → Type 0
NothingFits spec condition begin text =
    (j : ℕ) (rule : PlainRule) (n : ℕ) → slice_get spec.rules j ≡ Some rule → Fits spec rule condition begin text n → ⊥

-- The chosen fit has the greatest reach, and then the earliest rule: number i, with n bytes.
pub record IsChosen (spec : PlainSpec) (condition : ℕ) (begin : Bool) (text : List ℕ) (i n : ℕ) : Type 0 where
  pub rule : PlainRule
  pub at : slice_get spec.rules i ≡ Some rule
  pub fits : Fits spec rule condition begin text n
  pub longest : (j : ℕ) (other : PlainRule) (m : ℕ) → slice_get spec.rules j ≡ Some other → Fits spec other condition begin text m →
      (reach other m < reach rule n) ⊎ ((reach other m ≡ reach rule n) × (i ≤ j))

-- The choice is a rule's number and a number of bytes; none if nothing fits.
abbrev pub IsChoice : PlainSpec → ℕ → Bool → List ℕ → Option (ℕ × ℕ) → Type 0
IsChoice spec condition begin text choice =
    MatchOption choice (NothingFits spec condition begin text) (λ found. IsChosen spec condition begin text found.0 found.1)
