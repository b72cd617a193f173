-- The invariant of every specification, about its conditions, kinds and rules.
use Rattle.std.specs.Prelude.{ℕ, ◌+◌, ◌<◌, ◌≤◌, Bool, true, false, not, ◌&&◌, nat_lt, nat_eq, if◌then◌else◌, List, [], ◌∷◌, length, map, Option, Some, None, IsTrue}
use Rattle.std.specs.List.{list_all, list_any, flat_map}
use Rattle.std.specs.Cmp.Lexicographic.{pointwise}
use Rattle.lx_ere.specs.Regex.{Regex}
use Rattle.lx_ere.specs.Bounds.{has_ordered_bounds}
use Rattle.lx_rules.specs.Limits.{max_definitions, max_rules, max_start_conditions, returned_number_limit}
use Rattle.lx_rules.specs.Plain.{StartCondition, PlainDefinition, PlainRule, PlainSpec}
use Rattle.lx_rules.specs.Identifiers.{is_identifier}
use Rattle.lx_rules.specs.Nesting.{are_nested, expressions_of}
use Rattle.lx_rules.specs.declared.rule.Kind.{Kind}
use Rattle.lx_rules.specs.declared.rule.Kind.TheVariants.{Name, Number}
use Rattle.lx_rules.specs.declared.rule.Step.{Step}
use Rattle.lx_rules.specs.declared.rule.Step.TheVariants.{Echo, Begin, Return}

-- no two of the names are the same
abbrev pub are_distinct : List (List ℕ) → Bool
are_distinct [] = true
are_distinct (name ∷ names) = not (list_any (λ other. pointwise nat_eq other name) names) && are_distinct names

-- the letters of INITIAL
abbrev pub initial_letters : List ℕ
initial_letters = 73 ∷ 78 ∷ 73 ∷ 84 ∷ 73 ∷ 65 ∷ 76 ∷ []

-- the first condition is INITIAL, which isn't exclusive
abbrev pub begins_initial : List StartCondition → Bool
begins_initial [] = false
begins_initial (s ∷ more) = pointwise nat_eq s.name initial_letters && not s.exclusive

-- the first condition is INITIAL, and no two have the same name
unfoldable pub are_start_conditions : List StartCondition → Bool
are_start_conditions start_conditions = begins_initial start_conditions && are_distinct (map (λ s. s.name) start_conditions)

-- no two definitions have the same name
unfoldable pub are_definitions : List PlainDefinition → Bool
are_definitions definitions = are_distinct (map (λ d. d.name) definitions)

-- in each interval of the definitions and of the other expressions the low bound is at most the high one
unfoldable pub are_ordered : List PlainDefinition → List Regex → Bool
are_ordered definitions trees = list_all (λ d. has_ordered_bounds d.tree) definitions && list_all has_ordered_bounds trees

-- the kind is the number of an identifier, or a number below 2 ^ 31
abbrev pub is_kind : ℕ → Kind → Bool
is_kind kinds (Name n) = nat_lt n kinds
is_kind kinds (Number n) = nat_lt n returned_number_limit

-- the steps name conditions and kinds that exist, and a return is the last step
abbrev pub are_steps : ℕ → ℕ → List Step → Bool
are_steps conditions kinds [] = true
are_steps conditions kinds (Echo ∷ steps) = are_steps conditions kinds steps
are_steps conditions kinds (Begin c ∷ steps) = nat_lt c conditions && are_steps conditions kinds steps
are_steps conditions kinds (Return k ∷ []) = is_kind kinds k
are_steps conditions kinds (Return k ∷ step ∷ steps) = false

-- the numbers are in ascending order, and the last is below the bound
abbrev pub are_rising_below : ℕ → List ℕ → Bool
are_rising_below most [] = true
are_rising_below most (c ∷ []) = nat_lt c most
are_rising_below most (c ∷ d ∷ more) = nat_lt c d && are_rising_below most (d ∷ more)

abbrev pub are_conditions : ℕ → Option (List ℕ) → Bool
are_conditions most None = true
are_conditions most (Some list) = are_rising_below most list

-- the steps of a rule name conditions and kinds that exist, its conditions exist, and its line counts from 1
abbrev pub is_rule : ℕ → ℕ → PlainRule → Bool
is_rule conditions kinds rule = nat_lt 0 rule.line && (are_steps conditions kinds rule.steps && are_conditions conditions rule.conditions)

-- the names that the steps return, by their numbers
abbrev pub returned_names : List Step → List ℕ
returned_names [] = []
returned_names (Echo ∷ steps) = returned_names steps
returned_names (Begin c ∷ steps) = returned_names steps
returned_names (Return (Name n) ∷ steps) = n ∷ returned_names steps
returned_names (Return (Number n) ∷ steps) = returned_names steps

-- The next number after those that appear, if each appears first after all smaller ones, and n of them appeared before.
abbrev pub next_number : ℕ → List ℕ → Option ℕ
next_number n [] = Some n
next_number n (k ∷ numbers) = if nat_lt k n then next_number n numbers else if nat_eq k n then next_number (n + 1) numbers else None

abbrev pub is_number : ℕ → Option ℕ → Bool
is_number n None = false
is_number n (Some k) = nat_eq k n

-- the kinds are identifiers, each once and returned by a rule, in order of first appearance
unfoldable pub are_kinds : List (List ℕ) → List PlainRule → Bool
are_kinds kinds rules =
    list_all is_identifier kinds && (are_distinct kinds && is_number (length kinds) (next_number 0 (flat_map (λ r. returned_names r.steps) rules)))

-- The invariant of every specification. The limits are kept, INITIAL is first, and names are distinct. Names are defined and at most 32 deep, and
-- intervals have bounds in order. Kinds are in order of first appearance, and rules name conditions and kinds that exist.
pub record IsWellFormed (spec : PlainSpec) : Type 0 where
  pub some_conditions : 0 < length spec.conditions
  pub few_conditions : length spec.conditions ≤ max_start_conditions
  pub few_definitions : length spec.definitions ≤ max_definitions
  pub few_rules : length spec.rules ≤ max_rules
  pub initial_first : IsTrue (are_start_conditions spec.conditions)
  pub distinct : IsTrue (are_definitions spec.definitions)
  pub nested : IsTrue (are_nested spec.definitions (expressions_of spec.rules))
  pub ordered : IsTrue (are_ordered spec.definitions (expressions_of spec.rules))
  pub kinds_in_order : IsTrue (are_kinds spec.kinds spec.rules)
  pub rules_in_range : IsTrue (list_all (is_rule (length spec.conditions) (length spec.kinds)) spec.rules)
