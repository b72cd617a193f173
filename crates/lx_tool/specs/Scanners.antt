-- The scanner in C that `lex` and `flex` print.
use Rattle.std.specs.Prelude.{◌≡◌, ◌⊎◌, ◌++◌, ℕ, Bool, true, false, if◌then◌else◌, nat_eq, ◌&&◌, ◌||◌, List, [], ◌∷◌, Option, Some, None, IfSome, is_some, codes}
use Rattle.std.specs.Cmp.Lexicographic.{pointwise}
use Rattle.std.specs.Io.KnownBytes.{Appends, Keeps}
use Rattle.lx_automaton.specs.Lists.{IsListAutomatonOf}
use Rattle.lx_automaton.specs.declared.lists.ListAutomaton.{ListAutomaton}
use Rattle.lx_cli.specs.declared.version.TheConstants.{VERSION}
use Rattle.lx_lex.specs.Arrays.{HasCutArrays}
use Rattle.lx_lex.specs.Cuts.{IsCutSpec, parts_of}
use Rattle.lx_lex.specs.Lists.{HasListArrays}
use Rattle.lx_lex.specs.StateCode.{HasForm}
use Rattle.lx_lex.specs.Translation.{FileRule, IsScannerSpec}
use Rattle.lx_lex.specs.declared.forms.ScannerForm.{ScannerForm}
use Rattle.lx_rules.specs.Plain.{PlainSpec, StartCondition}
use Rattle.lx_tables.specs.Model.{AreTablesOf, Table}
use Rattle.lx_tool.specs.declared.scanner_help.TheConstants.{FLEX_HEAD, LEX_HEAD, SCANNER_OPTIONS}
use Rattle.lx_tool.specs.Printing.{IsPlaced, IsWritten}

-- ---- the words that ask for it

-- true for the name of `lex`, false for that of `flex`
abbrev pub command_named : List ℕ → Option Bool
command_named name = if pointwise nat_eq name (codes "lex") then Some true else (if pointwise nat_eq name (codes "flex") then Some false else None)

-- the part after the last `/` of a path, whose rest may still have some
abbrev pub part_after : List ℕ → List ℕ → List ℕ
part_after name [] = name
part_after name (b ∷ rest) = part_after (if nat_eq b 47 then rest else name) rest

abbrev pub first_command : List (List ℕ) → Option Bool
first_command [] = None
first_command (word ∷ words) = command_named word

abbrev pub command_or : Option Bool → Option Bool → Option Bool
command_or (Some posix) other = Some posix
command_or None other = other

-- True if the program's name is `lex`, or its first word; false for `flex`. The program's name decides.
abbrev pub scanner_asked : List (List ℕ) → Option Bool
scanner_asked [] = None
scanner_asked (program ∷ words) = command_or (command_named (part_after program program)) (first_command words)

-- true if the words are `check` and `--flex`
abbrev pub are_check_words : List (List ℕ) → Bool
are_check_words [] = false
are_check_words (command ∷ []) = false
are_check_words (command ∷ flag ∷ words) = pointwise nat_eq command (codes "check") && pointwise nat_eq flag (codes "--flex")

-- true if the command line begins with these, after the program's name
abbrev pub asks_flex_check : List (List ℕ) → Bool
asks_flex_check [] = false
asks_flex_check (program ∷ words) = are_check_words words

-- true if the words are for `lex`, `flex` or `check --flex`
abbrev pub is_for_flex : List (List ℕ) → Bool
is_for_flex words = is_some (scanner_asked words) || asks_flex_check words

-- ---- the scanner

-- The tables are those of the specification that finds the ends of tokens of these rules.
pub record IsCutTable (rules : List FileRule) (table : Table) : Type 0 where
  pub spec : PlainSpec
  pub of_rules : IsCutSpec rules spec
  pub are_tables : AreTablesOf spec table

-- There are no such tables only if no rule has trailing context where both parts vary.
abbrev pub FindsEnds : List FileRule → Option Table → Type 0
FindsEnds rules None = parts_of rules ≡ []
FindsEnds rules (Some table) = IsCutTable rules table

-- The rules of the specification are rules that were read, one for one, and the tables find the ends of their tokens.
pub record IsMade (spec : PlainSpec) (cuts : Option Table) : Type 0 where
  pub conditions : List StartCondition
  pub rules : List FileRule
  pub is_spec : IsScannerSpec conditions rules spec
  pub finds_ends : FindsEnds rules cuts

-- a list automaton of the specification, if there is one
abbrev pub FindsLists : PlainSpec → Option ListAutomaton → Type 0
FindsLists spec lists = IfSome lists (λ l. IsListAutomatonOf spec l.automaton l.lists)

-- The text is a scanner. It has the arrays of the tables of such a specification, or the code for the states of these tables; the arrays that find the ends of tokens;
-- and those that find all rules for REJECT, if there are any.
pub record IsScanner (text : List ℕ) : Type 0 where
  pub spec : PlainSpec
  pub cuts : Option Table
  pub is_made : IsMade spec cuts
  pub table : Table
  pub are_tables : AreTablesOf spec table
  pub form : ScannerForm
  pub has_form : HasForm form table text
  pub has_cut_arrays : IfSome cuts (λ t. HasCutArrays t text)
  pub lists : Option ListAutomaton
  pub are_lists : FindsLists spec lists
  pub has_list_arrays : IfSome lists (λ l. HasListArrays l.automaton l.lists text)

-- A scanner went to the output or to a file, and then at most two further texts went to files: a header, and a report on backing up.
pub record IsScannerPrinted {T : Type 0} (places : T → List ℕ → List ℕ → T → Type 0) (before after : T) (old new : Option (List ℕ)) : Type 0 where
  pub text : List ℕ
  pub is_scanner : IsScanner text
  pub target : Option (List ℕ)
  pub written : IsWritten target text old new
  pub between : T
  pub placed : IsPlaced places target text before between
  pub header : Option (List ℕ)
  pub header_text : List ℕ
  pub behind : T
  pub header_placed : IsPlaced places header header_text between behind
  pub report : Option (List ℕ)
  pub report_text : List ℕ
  pub report_placed : IsPlaced places report report_text behind after

-- the line that names the version
abbrev pub version_line : List ℕ
version_line = codes "flex 2.6.4 compatible, by lx " ++ VERSION.now ++ codes "\n"

-- the help of the command, or its version
abbrev pub IsAnswer : Bool → List ℕ → Type 0
IsAnswer posix said = (said ≡ (if posix then LEX_HEAD.now else FLEX_HEAD.now) ++ SCANNER_OPTIONS.now) ⊎ (said ≡ version_line)

-- The help or the version was written, and no file was made.
pub record IsAnswered {T : Type 0} (posix : Bool) (before after : T) (old new : Option (List ℕ)) : Type 0 where
  pub said : List ℕ
  pub answer : IsAnswer posix said
  pub wrote : Appends old new said
  pub unchanged : after ≡ before

abbrev pub IsOutcome : {T : Type 0} → (T → List ℕ → List ℕ → T → Type 0) → Bool → T → T → Option (List ℕ) → Option (List ℕ) → Type 0
IsOutcome places posix before after old new = IsAnswered posix before after old new ⊎ IsScannerPrinted places before after old new

-- It was done, and then the output was flushed.
pub record IsDone {T : Type 0} (places : T → List ℕ → List ℕ → T → Type 0) (posix : Bool) (before after : T) (old new : Option (List ℕ)) : Type 0 where
  pub sent : Option (List ℕ)
  pub outcome : IsOutcome places posix before after old sent
  pub flushed : Keeps sent new

-- A report was written, and then the output was flushed.
pub record IsReportWritten (old new : Option (List ℕ)) : Type 0 where
  pub said : List ℕ
  pub sent : Option (List ℕ)
  pub wrote : Appends old sent said
  pub flushed : Keeps sent new
