-- The report on a specification.
use Rattle.std.specs.Prelude.{◌≡◌, ◌<◌, ℕ, ⊤, All, Bool, true, false, List, [], ◌∷◌, ◌++◌, codes}
use Rattle.lx_check.specs.declared.text_fault.TextFault.{TextFault}
use Rattle.lx_check.specs.declared.text_fault.TextFault.TheVariants as finding
use Rattle.lx_check.specs.declared.report.Report.{Report}
use Rattle.lx_check.specs.declared.report.Report.TheVariants as report
use Rattle.lx_diagnose.specs.CodeWords.{word_of}
use Rattle.lx_report.specs.Lines.{code_text, finding_line, head_text, shown}
use Rattle.lx_report.specs.declared.finding.ReportPlace.{ReportPlace}
use Rattle.lx_report.specs.declared.finding.Severity.TheVariants.{Error, Warning}
use Rattle.lx_warnings.specs.Kinds.{has_kind}
use Rattle.lx_warnings.specs.Names.{name_text}
use Rattle.lx_warnings.specs.declared.kinds.KindSet.{KindSet}
use Rattle.lx_warnings.specs.declared.kinds.WarningKind.{WarningKind}
use Rattle.lx_warnings.specs.declared.warnings.Warning.{Warning as WarningTold}

-- the code of a finding
abbrev pub code_of : TextFault → List ℕ
code_of (finding.Specification fault) = word_of fault.code
code_of finding.TooManyPositions = codes "E30"
code_of finding.TooManySets = codes "E31"

-- its line; 0 if it has none
abbrev pub line_of : TextFault → ℕ
line_of (finding.Specification fault) = fault.line
line_of finding.TooManyPositions = 0
line_of finding.TooManySets = 0

-- more was appended to a text
pub record Extends (old new : List ℕ) : Type 0 where
  pub more : List ℕ
  pub is : new ≡ old ++ more

-- To a text was appended a line of a fault. It begins with the file, this line and maybe a column, and the code of the error.
pub record TellsFault (file : List ℕ) (code : List ℕ) (line : ℕ) (old new : List ℕ) : Type 0 where
  pub place : ReportPlace
  pub at_line : place.line ≡ line
  pub rest : List ℕ
  pub said : new ≡ old ++ (head_text file place Error ++ (code_text code ++ rest))

-- The report begins with the first of some findings.
abbrev pub TellsFirst : List ℕ → List TextFault → List ℕ → Type 0
TellsFirst file [] said = ⊤
TellsFirst file (finding ∷ more) said = TellsFault file (code_of finding) (line_of finding) [] said

-- The report on a text that is rejected begins with its first finding.
abbrev pub TellsVerdict : List ℕ → Report → List ℕ → Type 0
TellsVerdict file (report.Refused findings) said = TellsFirst file findings.items said
TellsVerdict file (report.Accepted accepted) said = ⊤

-- ---- the warnings of a text that is accepted

-- These warnings are of kinds of the set.
abbrev pub AreAsked : KindSet → List WarningTold → Type 0
AreAsked asked told = All (λ warning. has_kind asked warning.kind ≡ true) told

-- To a text was appended the line of a warning of this kind.
pub record TellsWarning (file : List ℕ) (kind : WarningKind) (old new : List ℕ) : Type 0 where
  pub place : ReportPlace
  pub words : List ℕ
  pub rest : List ℕ
  pub said : new ≡ old ++ (finding_line file Warning place [] words (name_text kind) ++ rest)

-- The report begins with a warning of a kind that is enabled.
pub record BeginsWithWarning (file : List ℕ) (is_asked : WarningKind → Bool) (said : List ℕ) : Type 0 where
  pub kind : WarningKind
  pub asked : is_asked kind ≡ true
  pub told : TellsWarning file kind [] said

-- To a text was appended the line that the file is accepted.
pub record TellsSummary (file old new : List ℕ) : Type 0 where
  pub rest : List ℕ
  pub said : new ≡ old ++ (shown file ++ (codes ": accepted: " ++ rest))

-- No warning is reported: the report is empty if quiet, and else begins with the line that the file is accepted.
abbrev pub TellsNoWarning : List ℕ → Bool → List ℕ → Type 0
TellsNoWarning file true said = said ≡ []
TellsNoWarning file false said = TellsSummary file [] said

-- This number of warnings is found. If there is one, the report begins with a warning; else it has none.
pub record TellsWarnings (file : List ℕ) (quiet : Bool) (is_asked : WarningKind → Bool) (count : ℕ) (said : List ℕ) : Type 0 where
  pub none : count ≡ 0 → TellsNoWarning file quiet said
  pub some : 0 < count → BeginsWithWarning file is_asked said
