-- The tables of a text, and the cause for which it has none.
use Rattle.std.specs.Prelude.{◌≡◌, ◌≢◌, ℕ, ⊤, List}
use Rattle.lx_rules.specs.Plain.{PlainSpec}
use Rattle.lx_spec.specs.Whole.{IsFault, IsRead}
use Rattle.lx_spec.specs.declared.fault.Code.TheVariants as code
use Rattle.lx_auto.specs.declared.fault.BuildFault.{BuildFault}
use Rattle.lx_auto.specs.declared.fault.BuildFault.TheVariants as build
use Rattle.lx_auto.specs.TooLarge.{HasTooManyPositions, HasTooManySets}
use Rattle.lx_tables.specs.Model.{Table, IsTable, AreTablesOf}
use Rattle.lx_tables.specs.Reading.{IsTextOf}
use Rattle.lx_tool.specs.declared.failure.CommandFault.{CommandFault}
use Rattle.lx_tool.specs.declared.failure.CommandFault.TheVariants.{Specification, Automaton, Tables, Unprintable, Words, TooManyFiles, InputTwice, Refused, NotRead, Output, Memory}

-- Tables of the text's specification.
pub record AreTablesOfText (text : List ℕ) (tables : Table) : Type 0 where
  pub spec : PlainSpec
  pub read : IsRead text spec
  pub of_spec : AreTablesOf spec tables

-- The text is these tables'.
abbrev pub AreTablesIn : List ℕ → Table → Type 0
AreTablesIn text table = IsTable table × IsTextOf table text

-- The text's specification is too large: it has too many positions, or too many reached sets.
pub record IsTooLarge (text : List ℕ) (fault : BuildFault) : Type 0 where
  pub spec : PlainSpec
  pub read : IsRead text spec
  pub known : fault ≢ build.Memory
  pub positions : fault ≡ build.TooManyPositions → HasTooManyPositions spec
  pub sets : fault ≡ build.TooManySets → HasTooManySets spec

-- the cause for which a text has no tables: its fault, or a failed allocation
abbrev pub HasNoTables : List ℕ → CommandFault → Type 0
HasNoTables text (Specification fault) = (fault.code ≢ code.Memory) × IsFault text fault
HasNoTables text (Automaton fault) = IsTooLarge text fault
HasNoTables text (Tables fault) = ⊥
HasNoTables text (Unprintable fault) = ⊥
HasNoTables text (Words error) = ⊥
HasNoTables text TooManyFiles = ⊥
HasNoTables text InputTwice = ⊥
HasNoTables text (Refused fault) = ⊥
HasNoTables text (NotRead name) = ⊥
HasNoTables text Output = ⊥
HasNoTables text Memory = ⊤
