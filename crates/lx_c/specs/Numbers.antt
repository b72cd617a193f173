-- The numbers of kinds.
use Rattle.std.specs.Prelude.{ℕ, ◌<◌, ◌≤◌, ◌+◌, max, List, [], ◌∷◌}
use Rattle.std.specs.List.{All, flat_map}
use Rattle.lx_rules.specs.declared.rule.Kind.TheVariants.{Name, Number}
use Rattle.lx_rules.specs.declared.rule.Step.{Step}
use Rattle.lx_rules.specs.declared.rule.Step.TheVariants.{Echo, Begin, Return}
use Rattle.lx_tables.specs.Model.{Table}

-- the number that a step returns
abbrev pub returned_number : Step → List ℕ
returned_number Echo = []
returned_number (Begin c) = []
returned_number (Return (Name k)) = []
returned_number (Return (Number n)) = n ∷ []

abbrev pub returned_by : List Step → List ℕ
returned_by steps = flat_map returned_number steps

-- the most that the number of the first kind can be: one above the greatest number of 32 bits
abbrev pub max_first_kind : ℕ
max_first_kind = 4294967296

-- n, or one above the greatest of the numbers
abbrev pub above : ℕ → List ℕ → ℕ
above n [] = n
above n (m ∷ numbers) = above (max n (m + 1)) numbers

-- the number of the first kind: 256, or one above the greatest number that an action returns
abbrev pub first_kind : Table → ℕ
first_kind table = above 256 (flat_map (λ rule. returned_by rule.steps) table.rules)

-- The numbers of kinds are above all bytes, and above all numbers that actions return, so no two meet.
pub record AreApart (table : Table) : Type 0 where
  pub bytes : 256 ≤ first_kind table
  pub numbers : All (λ n. n < first_kind table) (flat_map (λ rule. returned_by rule.steps) table.rules)
