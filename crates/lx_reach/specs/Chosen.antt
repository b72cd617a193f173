-- The rules that are chosen for some text (XCU `lex`, "Rules in lex").
use Rattle.std.specs.Prelude.{◌≡◌, ℕ, ◌<◌, Bool, true, false, All, Contains, List, Some, length, slice_index_or}
use Rattle.lx_rules.specs.Choice.{IsChoice}
use Rattle.lx_rules.specs.Plain.{PlainSpec}
use Rattle.lx_tables.specs.Model.{Table}
use Rattle.lx_scan.specs.Answers.{choice_of}

-- In this condition, at line begin or elsewhere, the rule is the choice for some text of bytes.
pub record IsChosenIn (table : Table) (condition rule : ℕ) : Type 0 where
  pub begin : Bool
  pub text : List ℕ
  pub bytes : All (λ b. b < 256) text
  pub len : ℕ
  pub choice : choice_of table condition begin text ≡ Some (rule, len)

-- In some condition it is.
pub record IsEverChosen (table : Table) (rule : ℕ) : Type 0 where
  pub condition : ℕ
  pub known : condition < length table.machine.starts
  pub chosen : IsChosenIn table condition rule

-- For each number below the count, the flag is true if and only if the property holds. It holds of no other number.
pub record AreFlagsOf (count : ℕ) (Holds : ℕ → Type 0) (flags : List Bool) : Type 0 where
  pub long : length flags ≡ count
  pub holds : (n : ℕ) → slice_index_or flags n false ≡ true → Holds n
  pub fails : (n : ℕ) → slice_index_or flags n false ≡ false → Holds n → ⊥

-- These are the rules below a number that are never chosen.
pub record AreNeverChosen (table : Table) (count : ℕ) (rules : List ℕ) : Type 0 where
  pub all : (rule : ℕ) → rule < count → (IsEverChosen table rule → ⊥) → Contains rules rule
  pub only : All (λ rule. IsEverChosen table rule → ⊥) rules

-- ---- by the rules of a specification, without tables
-- In this condition, at line begin or elsewhere, the rule is chosen for some text of bytes.
pub record IsChosenBy (spec : PlainSpec) (condition rule : ℕ) : Type 0 where
  pub begin : Bool
  pub text : List ℕ
  pub bytes : All (λ b. b < 256) text
  pub len : ℕ
  pub choice : IsChoice spec condition begin text (Some (rule, len))

-- In some condition it is.
pub record IsEverChosenBy (spec : PlainSpec) (rule : ℕ) : Type 0 where
  pub condition : ℕ
  pub known : condition < length spec.conditions
  pub chosen : IsChosenBy spec condition rule
