-- The meaning of a specification's rules, if they have no fault.
use Rattle.std.specs.Prelude.{◌≡◌, ℕ, zero, suc, Bool, false, nat_eq, if◌then◌else◌, List, [], ◌∷◌, ◌++◌, length, map, filter, Option, Some, None, unwrap_or, Contains, slice_get}
use Rattle.std.specs.List.{list_any, position}
use Rattle.std.specs.Cmp.Lexicographic.{pointwise}
use Rattle.lx_ere.specs.Regex.{Regex, Reading}
use Rattle.lx_ere.specs.Pattern.{IsPattern}
use Rattle.lx_rules.specs.Plain.{StartCondition, PlainDefinition, PlainRule, PlainSpec}
use Rattle.lx_rules.specs.declared.rule.Kind.{Kind}
use Rattle.lx_rules.specs.declared.rule.Kind.TheVariants as kind
use Rattle.lx_rules.specs.declared.rule.Step.{Step}
use Rattle.lx_rules.specs.declared.rule.Step.TheVariants as step
use Rattle.lx_spec.specs.Sections.{RawDefinition, RawRule}
use Rattle.lx_spec.specs.RuleLines.{RulePrefix, absent, unclosed, listed}
use Rattle.lx_spec.specs.Actions.{Value, name, number, Statement, nothing, echo, begin, return, Action, shared, own, IsAction}
use Rattle.lx_spec.specs.Dictionary.{row_of, mentions_of, unreadable_marks}
use Rattle.lx_spec.specs.Graph.{IsMention, is_marked}
use Rattle.lx_spec.specs.Verdict.{SymbolTable, condition_number, fields_of}

-- the number of a condition that is declared
abbrev pub number_or_first : List StartCondition → List ℕ → ℕ
number_or_first start_conditions text = unwrap_or (condition_number start_conditions text) 0

-- n numbers from this one on
abbrev pub numbers_from : ℕ → ℕ → List ℕ
numbers_from i zero = []
numbers_from i (suc n) = i ∷ numbers_from (suc i) n

abbrev pub contains_number : List ℕ → ℕ → Bool
contains_number numbers c = list_any (λ k. nat_eq k c) numbers

-- the numbers of the conditions that the names mean, in ascending order
abbrev pub named_conditions : List StartCondition → List (List ℕ) → List ℕ
named_conditions start_conditions names = filter (contains_number (map (number_or_first start_conditions) names)) (numbers_from 0 (length start_conditions))

abbrev pub conditions_of : List StartCondition → RulePrefix → Option (List ℕ)
conditions_of start_conditions absent = None
conditions_of start_conditions unclosed = None
conditions_of start_conditions (listed text) = Some (named_conditions start_conditions (fields_of text))

-- a resolved rule: its conditions, its pattern and its action
pub record ResolvedRule : Type 0 where
  pub conditions : Option (List ℕ)
  pub reading : Reading
  pub action : Action

pub record IsResolved (start_conditions : List StartCondition) (raw : RawRule) (s : ResolvedRule) : Type 0 where
  pub conditions : s.conditions ≡ conditions_of start_conditions raw.prefix
  pub reading : IsPattern raw.pattern s.reading
  pub action : IsAction raw.action s.action

-- the resolved rules, one for each rule
abbrev pub AreResolved : List StartCondition → List RawRule → List ResolvedRule → Type 0
AreResolved start_conditions [] [] = Unit {0}
AreResolved start_conditions [] (s ∷ resolved) = ⊥
AreResolved start_conditions (raw ∷ raws) [] = ⊥
AreResolved start_conditions (raw ∷ raws) (s ∷ resolved) = IsResolved start_conditions raw s × AreResolved start_conditions raws resolved

-- the value of the first return of some statements
abbrev pub returned_by : List Statement → Option Value
returned_by [] = None
returned_by (nothing ∷ ss) = returned_by ss
returned_by (echo ∷ ss) = returned_by ss
returned_by (begin c ∷ ss) = returned_by ss
returned_by (return v ∷ ss) = Some v

-- one more kind, if it is a name that isn't in the list
abbrev pub with_kind : List (List ℕ) → Option Value → List (List ℕ)
with_kind kinds None = kinds
with_kind kinds (Some (name text)) = if list_any (λ k. pointwise nat_eq k text) kinds then kinds else kinds ++ text ∷ []
with_kind kinds (Some (number n)) = kinds

-- the statements of the first action that isn't that of the next rule
abbrev pub first_own : List Action → List Statement
first_own [] = []
first_own (shared ∷ actions) = first_own actions
first_own (own ss ∷ actions) = ss

abbrev pub actions_in : List ResolvedRule → List Action
actions_in resolved = map (λ s. s.action) resolved

-- the statements of each rule: those of its own action, or of the next rule's
abbrev pub statements_in : List ResolvedRule → List (List Statement)
statements_in [] = []
statements_in (s ∷ resolved) = first_own (actions_in (s ∷ resolved)) ∷ statements_in resolved

-- the names that rules return, each once, in order of first appearance after those before
abbrev pub kinds_behind : List (List ℕ) → List (List Statement) → List (List ℕ)
kinds_behind kinds [] = kinds
kinds_behind kinds (ss ∷ lists) = kinds_behind (with_kind kinds (returned_by ss)) lists

abbrev pub kinds_of : List ResolvedRule → List (List ℕ)
kinds_of resolved = kinds_behind [] (statements_in resolved)

abbrev pub kind_of : List (List ℕ) → Value → Kind
kind_of kinds (name text) = kind.Name (unwrap_or (position (λ k. pointwise nat_eq k text) kinds) 0)
kind_of kinds (number n) = kind.Number n

-- the steps of some statements, up to the first return and including it
abbrev pub steps_of : List StartCondition → List (List ℕ) → List Statement → List Step
steps_of start_conditions kinds [] = []
steps_of start_conditions kinds (nothing ∷ ss) = steps_of start_conditions kinds ss
steps_of start_conditions kinds (echo ∷ ss) = step.Echo ∷ steps_of start_conditions kinds ss
steps_of start_conditions kinds (begin c ∷ ss) = step.Begin (number_or_first start_conditions c) ∷ steps_of start_conditions kinds ss
steps_of start_conditions kinds (return v ∷ ss) = step.Return (kind_of kinds v) ∷ []

-- the rules, each with the steps of its own action or of the next rule's
abbrev pub rules_of : List StartCondition → List (List ℕ) → List RawRule → List ResolvedRule → List PlainRule
rules_of start_conditions kinds [] resolved = []
rules_of start_conditions kinds (raw ∷ raws) [] = []
rules_of start_conditions kinds (raw ∷ raws) (s ∷ resolved) =
    record { line = raw.line; conditions = s.conditions; reading = s.reading; steps = steps_of start_conditions kinds (first_own (actions_in (s ∷ resolved))) } ∷ rules_of start_conditions kinds raws resolved

-- One of the expressions names the definition, or names one from which mentions lead to it.
pub data IsReached (raw_definitions : List RawDefinition) (trees : List (Option Regex)) (from : List Regex) : ℕ → Type 0 where
  named_in : (tree : Regex) (j : ℕ) → Contains from tree → Contains (row_of raw_definitions tree) j → IsReached raw_definitions trees from j
  mentioned : (i j : ℕ) → IsReached raw_definitions trees from i → IsMention (mentions_of raw_definitions trees) i j → IsReached raw_definitions trees from j

-- The definitions from number i on that are reached and have a reading, in order.
pub data AreReached (Reached : ℕ → Type 0) : ℕ → List RawDefinition → List (Option Regex) → List PlainDefinition → Type 0 where
  none : (i : ℕ) → AreReached Reached i [] [] []
  reached : (i : ℕ) (d : RawDefinition) (tree : Regex) (raw_definitions : List RawDefinition) (trees : List (Option Regex)) (definitions : List PlainDefinition) → Reached i →
      AreReached Reached (suc i) raw_definitions trees definitions → AreReached Reached i (d ∷ raw_definitions) (Some tree ∷ trees) (record { name = d.name; tree = tree } ∷ definitions)
  passed : (i : ℕ) (d : RawDefinition) (t : Option Regex) (raw_definitions : List RawDefinition) (trees : List (Option Regex)) (definitions : List PlainDefinition) → (Reached i → ⊥) →
      AreReached Reached (suc i) raw_definitions trees definitions → AreReached Reached i (d ∷ raw_definitions) (t ∷ trees) definitions

abbrev pub patterns_in : List ResolvedRule → List Regex
patterns_in resolved = map (λ s. s.reading.tree) resolved

-- The definitions that the patterns of these rules reach, in order.
abbrev pub AreReachedBy : List ResolvedRule → List RawDefinition → List (Option Regex) → List PlainDefinition → Type 0
AreReachedBy resolved raw_definitions trees definitions = AreReached (IsReached raw_definitions trees (patterns_in resolved)) 0 raw_definitions trees definitions

-- Each definition that they reach has a reading.
abbrev pub AreReadable : List ResolvedRule → List RawDefinition → List (Option Regex) → Type 0
AreReadable resolved raw_definitions trees = (i : ℕ) → IsReached raw_definitions trees (patterns_in resolved) i → is_marked (unreadable_marks trees) i ≡ false

-- Definition i comes before the others: it extends their reached definitions to the reached ones from it on.
abbrev pub PutsReached : (ℕ → Type 0) → List RawDefinition → ℕ → Option Regex → List PlainDefinition → List PlainDefinition → Type 0
PutsReached Reached raw_definitions i tree old new = (d : RawDefinition) → slice_get raw_definitions i ≡ Some d → (more : List RawDefinition) (trees : List (Option Regex)) →
    AreReached Reached (suc i) more trees old → AreReached Reached i (d ∷ more) (tree ∷ trees) new

-- The specification of these resolved rules, with these conditions and definitions.
pub record AreSpec (table : SymbolTable) (raws : List RawRule) (resolved : List ResolvedRule) (spec : PlainSpec) : Type 0 where
  pub conditions : spec.conditions ≡ table.start_conditions
  pub definitions : AreReachedBy resolved table.definitions table.trees spec.definitions
  pub kinds : spec.kinds ≡ kinds_of resolved
  pub rules : spec.rules ≡ rules_of table.start_conditions (kinds_of resolved) raws resolved
