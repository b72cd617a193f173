-- The text that `import` prints: a specification made of one for flex.
use Rattle.std.specs.Prelude.{◌≡◌, ◌≢◌, ◌⊎◌, ℕ, Bool, true, false, List, Option, None}
use Rattle.lx_flex.specs.Imported.{FlexDefinition, FlexRule, IsImported}
use Rattle.lx_rules.specs.Plain.{StartCondition}
use Rattle.lx_tables.specs.Model.{Table}
use Rattle.lx_piece.specs.Plans.{PlainInput}
use Rattle.lx_cli.specs.CommandLine.{PlainC, PlainImport}
use Rattle.lx_tool.specs.Outputs.{AreImportsApart, AreOutputsOfImportRefused}
use Rattle.lx_tool.specs.Printing.{IsPlaced, IsScannerFault, IsWritten}
use Rattle.lx_tool.specs.Sources.{whole}
use Rattle.lx_tool.specs.Tabling.{AreTablesOfText}
use Rattle.lx_tool.specs.declared.failure.CommandFault.{CommandFault}
use Rattle.lx_tool.specs.declared.failure.CommandFault.TheVariants.{Unprintable, Output, Memory, Refused}
use Rattle.lx_tool.specs.declared.failure.PrintFault.TheVariants.{NotImported}
use Rattle.lx_tool.specs.declared.failure.RequestFault.{RequestFault}
use Rattle.lx_tool.specs.declared.failure.RequestFault.TheVariants.{NoTargets, Outputs}
use Rattle.lx_tool.specs.declared.failure.OutputFault.{OutputFault}

-- the options of a scanner in C whose kinds have the prefix of the actions' kinds
abbrev pub kinds_words : PlainImport → PlainC
kinds_words i = record { scanner = true; header = false; prefix = i.prefix; include = None; direct = false }

-- The text's specification has tables, as `gen` prints them: no verdict on it is left.
pub record HasTables (text : List ℕ) : Type 0 where
  pub table : Table
  pub of_text : AreTablesOfText text table

-- lx accepts the text, has tables of it, and reads it as the rules of flex. Their number and order are the same, and each has the same conditions,
-- anchors and texts.
pub record IsOfFlex (text : List ℕ) : Type 0 where
  pub conditions : List StartCondition
  pub definitions : List FlexDefinition
  pub rules : List FlexRule
  pub imported : IsImported conditions definitions rules text
  pub tables : HasTables text

-- They gave the text that the arguments name, whole. The printed text is of flex, and went to the output, unless a file gets it.
pub record IsBroughtOver {S : Type 0} (gives : S → List ℕ → PlainInput → S → Type 0) (i : PlainImport) (before after : S) (old new : Option (List ℕ)) : Type 0 where
  pub text : List ℕ
  pub given : gives before i.rules (whole text) after
  pub printed : List ℕ
  pub of_flex : IsOfFlex printed
  pub written : IsWritten i.target printed old new

-- They gave that text. The file of `-c`, if it is given, got some text, and after it the file of `-o` the printed one. Neither is the input, nor are
-- both the same.
pub record HasPlacedImport {S T : Type 0} (gives : S → List ℕ → PlainInput → S → Type 0) (places : T → List ℕ → List ℕ → T → Type 0) (same : T → List ℕ → List ℕ → Bool → Type 0) (i : PlainImport) (before : S) (old new : T) : Type 0 where
  pub text : List ℕ
  pub after : S
  pub given : gives before i.rules (whole text) after
  pub printed : List ℕ
  pub of_flex : IsOfFlex printed
  pub actions : List ℕ
  pub between : T
  pub apart : AreImportsApart same old i
  pub first : IsPlaced places i.actions actions old between
  pub second : IsPlaced places i.target printed between new

-- a text isn't written: the output failed, an allocation failed, or there is a file for it and none can be made
abbrev pub IsUnplaced : Option (List ℕ) → CommandFault → Type 0
IsUnplaced target failure = (failure ≡ Output) ⊎ ((failure ≡ Memory) ⊎ ((failure ≡ Refused NoTargets) × (target ≢ None)))

-- files are asked for, and none can be made; or they are the input or one another; or the prefix is rejected
abbrev pub AreImportWordsRefused : PlainImport → RequestFault → Type 0
AreImportWordsRefused i fault = ((fault ≡ NoTargets) × ((i.actions ≢ None) ⊎ (i.target ≢ None))) ⊎ (((f : OutputFault) × (fault ≡ Outputs f) × AreOutputsOfImportRefused i f) ⊎ IsScannerFault (kinds_words i) fault)

-- the flex specification can't be imported
abbrev pub IsNotImported : CommandFault → Type 0
IsNotImported failure = failure ≡ Unprintable NotImported
