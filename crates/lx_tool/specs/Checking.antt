-- The report of `check` on a specification.
use Rattle.std.specs.Prelude.{◌≡◌, ◌≢◌, ◌⊎◌, ⊤, ℕ, Bool, true, false, List, [], ◌∷◌, ◌++◌, Option, Some, Contains, codes, if◌then◌else◌}
use Rattle.std.specs.Str.{bytes_eq}
use Rattle.std.specs.Borrow.{Bor}
use Rattle.std.specs.Io.KnownBytes.{Appends}
use Rattle.lx_check.specs.Findings.{IfAccepted, IsVerdict, TellsChosen}
use Rattle.lx_check.specs.Further.{AreFindings, IfRefused}
use Rattle.lx_check.specs.declared.report.Report.{Report}
use Rattle.lx_check.specs.declared.report.Report.TheVariants as report
use Rattle.lx_report.specs.Said.{BeginsWithWarning, TellsNoWarning, TellsVerdict}
use Rattle.lx_piece.specs.Plans.{PlainInput}
use Rattle.lx_warnings.specs.Kinds.{is_usual}
use Rattle.lx_warnings.specs.Names.{name_text}
use Rattle.lx_warnings.specs.declared.kinds.WarningKind.{WarningKind}
use Rattle.lx_cli.specs.CommandLine.{PlainCheck}
use Rattle.lx_tool.specs.Sources.{whole}
use Rattle.lx_tool.specs.Statuses.{report_in}
use Rattle.lx_tool.specs.declared.failure.CommandFault.{CommandFault}
use Rattle.lx_tool.specs.declared.failure.RequestFault.{RequestFault}
use Rattle.lx_tool.specs.declared.failure.RequestFault.TheVariants.{FlexLater, NoWarning}

-- the text is accepted
abbrev pub IsAccepted : Report → Type 0
IsAccepted (report.Refused findings) = ⊥
IsAccepted (report.Accepted accepted) = ⊤

-- The report on the text: its verdict, at most this number of faults, and for each rule if it is ever chosen.
pub record IsReportOf (most : ℕ) (text : List ℕ) (report : Report) : Type 0 where
  pub verdict : IsVerdict text report
  pub each : IfRefused (AreFindings most text) report
  pub chosen : IfAccepted TellsChosen report

pub record IsAcceptedText (most : ℕ) (text : List ℕ) : Type 0 where
  pub report : Report
  pub of_text : IsReportOf most text report
  pub accepted : IsAccepted report

-- ---- the warnings that are enabled

-- true if a kind is enabled after a word of `-W`, given its state before
abbrev pub asked_by_word : WarningKind → Bool → List ℕ → Bool
asked_by_word kind was word =
    if bytes_eq word (codes "all") then true
    else (if bytes_eq word (name_text kind) then true
    else (if bytes_eq word (codes "no-" ++ name_text kind) then false else was))

-- true if a kind is enabled after some words, which switch it on and off in turn
abbrev pub asked_by_words : WarningKind → Bool → List (List ℕ) → Bool
asked_by_words kind was [] = was
asked_by_words kind was (word ∷ words) = asked_by_words kind (asked_by_word kind was word) words

-- a kind is enabled
abbrev pub is_asked : PlainCheck → WarningKind → Bool
is_asked check kind = asked_by_words kind (is_usual kind) check.warnings

-- `error` is one of the words
abbrev pub has_error : List (List ℕ) → Bool
has_error [] = false
has_error (word ∷ words) = if bytes_eq word (codes "error") then true else has_error words

-- `-W error` is asked for, so that warnings are errors
abbrev pub HasErrorWord : PlainCheck → Type 0
HasErrorWord check = has_error check.warnings ≡ true

-- ---- the report

-- The report begins with a warning that is enabled.
abbrev pub TellsOne : PlainCheck → List ℕ → Type 0
TellsOne check said = BeginsWithWarning check.rules (is_asked check) said

-- No warning is reported.
abbrev pub TellsNone : PlainCheck → List ℕ → Type 0
TellsNone check said = TellsNoWarning check.rules check.quiet said

-- The report on a text that is accepted: with `-W error` it has no warning.
pub record TellsAccepted (check : PlainCheck) (said : List ℕ) : Type 0 where
  pub warnings : TellsOne check said ⊎ TellsNone check said
  pub no_errors : HasErrorWord check → TellsNone check said

-- A text that is accepted is rejected here, because of `-W error` and an enabled warning. In JSON no more is known of the report.
pub record HasErrors (check : PlainCheck) (said : List ℕ) : Type 0 where
  pub word : HasErrorWord check
  pub warning : check.json ≡ false → TellsOne check said

-- They gave the text that the arguments name, whole. It is accepted, and a report was written. `--flex` isn't among them.
pub record IsChecked {S : Type 0} (gives : S → List ℕ → PlainInput → S → Type 0) (check : PlainCheck) (before after : S) (old new : Option (List ℕ)) : Type 0 where
  pub plain : check.flex ≡ false
  pub text : List ℕ
  pub given : gives before check.rules (whole text) after
  pub accepted : IsAcceptedText check.most text
  pub said : List ℕ
  pub tells : check.json ≡ false → TellsAccepted check said
  pub wrote : Appends old new said

-- The failure carries the report on the text: it is rejected, or has warnings that are errors, if those are asked for. Unless it is in JSON, the
-- report begins with the verdict.
pub record IsReported (check : PlainCheck) (text : List ℕ) (failure : CommandFault) : Type 0 where
  pub report : Report
  pub of_text : IsReportOf check.most text report
  pub said : List ℕ
  pub refused : IfAccepted (λ accepted. HasErrors check said) report
  pub carried : report_in failure ≡ Some said
  pub tells : check.json ≡ false → TellsVerdict check.rules report said

-- The word is no kind's name, nor one behind `no-`.
pub record NamesNoKind (word : List ℕ) : Type 0 where
  pub on : (kind : WarningKind) → name_text kind ≢ word
  pub off : (kind : WarningKind) → codes "no-" ++ name_text kind ≢ word

-- The word names no warning. As a word of `-W` it means nothing.
pub record NamesNoWarning (word : List ℕ) : Type 0 where
  pub no_kind : NamesNoKind word
  pub not_all : word ≢ codes "all"
  pub not_error : word ≢ codes "error"

-- One of the words of `-W` names no warning.
pub record IsWarningFault (words : List (List ℕ)) (fault : RequestFault) : Type 0 where
  pub word : Bor (List ℕ)
  pub is : fault ≡ NoWarning word
  pub among : Contains words word.now
  pub unknown : NamesNoWarning word.now

-- The words of `check` are rejected: a word of `-W`, or `--flex`, which isn't the first.
abbrev pub IsCheckWordsFault : PlainCheck → RequestFault → Type 0
IsCheckWordsFault check fault = IsWarningFault check.warnings fault ⊎ ((fault ≡ FlexLater) × (check.flex ≡ true))
