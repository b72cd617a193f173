-- The effects of the program, by the request of its arguments.
use Rattle.std.specs.Prelude.{◌≡◌, ◌≢◌, ℕ, Bool, ◌<◌, ◌⊎◌, List, [], ◌∷◌, ◌++◌, Option, Some, None, Contains, IsSomeAnd, MatchOption, codes, length}
use Rattle.std.specs.Option.{option_map_or}
use Rattle.std.specs.Io.KnownBytes.{Keeps}
use Rattle.lx_tables.specs.Model.{Table}
use Rattle.lx_piece.specs.Plans.{PlainInput, max_files}
use Rattle.lx_cli.specs.CommandLine.{Asked, PlainOrder, PlainPrint, stored, run, scan, gen, up, check, explain, show, imports}
use Rattle.lx_tool.specs.Checking.{IsChecked, IsCheckWordsFault, IsReported}
use Rattle.lx_tool.specs.Explaining.{IsExplained, IsUnexplained}
use Rattle.lx_tool.specs.Given.{AreListed, IsNoTable}
use Rattle.lx_tool.specs.Importing.{AreImportWordsRefused, HasPlacedImport, IsBroughtOver, IsNotImported}
use Rattle.lx_tool.specs.Outputs.{IsApart, IsOverwritten}
use Rattle.lx_tool.specs.Naming.{AreFileNames, AreJudged, IsListingRefused, IsWordsFault, input_count, input_uses}
use Rattle.lx_tool.specs.Planning.{ListsAsked, ListsByRules, ListsByRulesIn, ListsByTextIn}
use Rattle.lx_tool.specs.Showing.{IsNotShown, IsShown}
use Rattle.lx_tool.specs.Sources.{whole}
use Rattle.lx_tool.specs.Streaming.{HasStopped}
use Rattle.lx_tool.specs.Statuses.{HidesNoMemory, WroteReport, status_of}
use Rattle.lx_tool.specs.Printing.{AreKindsOfSpecificationRefused, AreKindsOfTablesRefused, IsPlaced, IsScannerFault, IsWritten, PrintsSpecification, PrintsTables}
use Rattle.lx_tool.specs.Tabling.{AreTablesIn, AreTablesOfText, HasNoTables}
use Rattle.lx_tool.specs.declared.failure.CommandFault.{CommandFault}
use Rattle.lx_tool.specs.declared.failure.RequestFault.{RequestFault}
use Rattle.lx_tool.specs.declared.failure.RequestFault.TheVariants.{NoTargets, Outputs}
use Rattle.lx_tool.specs.declared.failure.OutputFault.{OutputFault}
use Rattle.lx_tool.specs.declared.failure.CommandFault.TheVariants.{Specification, Automaton, Tables, Unprintable, Words, TooManyFiles, InputTwice, Refused, NotRead, Output, Memory}

-- the specification and the file of the stored run
abbrev pub stored_specification : List ℕ
stored_specification = codes "%%\n[a-z]+ return ID;\n[0-9]+ return NUM;\n[ \\n]+ ;\n"

abbrev pub stored_text : List ℕ
stored_text = codes "ab 12\n"

-- ---- success

-- The sources gave the text with the order's first name, whole, and after it the files, in order. They were listed by the text, in the form of the
-- arguments.
pub record AreListedBy {S : Type 0} (gives : S → List ℕ → PlainInput → S → Type 0) (Lists : List ℕ → List (List ℕ) → List PlainInput → Type 0) (order : PlainOrder) (before after : S) (cut : List (List ℕ)) : Type 0 where
  pub text : List ℕ
  pub between : S
  pub given : gives before order.rules (whole text) between
  pub names : List (List ℕ)
  pub behind : S
  pub named : AreFileNames gives order between behind names
  pub judged : AreJudged order names
  pub listed : AreListed gives (Lists text names) names behind after cut

-- The names were read, and the files listed in the form of the arguments, by these tables.
pub record AreListedAs {S : Type 0} (gives : S → List ℕ → PlainInput → S → Type 0) (order : PlainOrder) (table : Table) (before after : S) (old new : Option (List ℕ)) (cut : List (List ℕ)) : Type 0 where
  pub names : List (List ℕ)
  pub behind : S
  pub named : AreFileNames gives order before behind names
  pub judged : AreJudged order names
  pub listed : AreListed gives (λ inputs. ListsAsked order.form table names inputs old new) names behind after cut

-- They gave the text that the print order names, whole. `Prints` gives the printed text, which went to the output, unless a file gets it.
pub record IsPrinted {S : Type 0} (gives : S → List ℕ → PlainInput → S → Type 0) (Prints : List ℕ → List ℕ → Type 0) (print : PlainPrint) (before after : S) (old new : Option (List ℕ)) : Type 0 where
  pub text : List ℕ
  pub given : gives before print.rules (whole text) after
  pub printed : List ℕ
  pub prints : Prints text printed
  pub written : IsWritten print.target printed old new

-- The request was carried out; `cut` names the files that were cut short.
abbrev pub HasDone : {S : Type 0} → (S → List ℕ → PlainInput → S → Type 0) → S → S → Option (List ℕ) → Option (List ℕ) → List (List ℕ) → Asked → Type 0
HasDone gives before after old new cut stored = ListsByRules stored_specification (whole stored_text ∷ []) old new × (cut ≡ [])
HasDone gives before after old new cut (run order) = AreListedBy gives (λ text names inputs. ListsByRulesIn order.form text names inputs old new) order before after cut
HasDone gives before after old new cut (scan order) = AreListedBy gives (λ text names inputs. ListsByTextIn order.form text names inputs old new) order before after cut
HasDone gives before after old new cut (gen print) = IsPrinted gives (PrintsSpecification print.c) print before after old new × (cut ≡ [])
HasDone gives before after old new cut (up print) = IsPrinted gives (PrintsTables print.c) print before after old new × (cut ≡ [])
HasDone gives before after old new cut (check c) = IsChecked gives c before after old new × (cut ≡ [])
HasDone gives before after old new cut (explain word) = IsExplained word old new × (cut ≡ [])
HasDone gives before after old new cut (show s) = IsShown gives s before after old new × (cut ≡ [])
HasDone gives before after old new cut (imports i) = IsBroughtOver gives i before after old new × (cut ≡ [])

-- ---- the texts put into files

-- They gave that text. The file of `-o`, if it is given, isn't the input, and got the printed text; else no file was made.
pub record HasPlacedText {S T : Type 0} (gives : S → List ℕ → PlainInput → S → Type 0) (places : T → List ℕ → List ℕ → T → Type 0) (same : T → List ℕ → List ℕ → Bool → Type 0) (Prints : List ℕ → List ℕ → Type 0) (print : PlainPrint) (before : S) (old new : T) : Type 0 where
  pub text : List ℕ
  pub after : S
  pub given : gives before print.rules (whole text) after
  pub printed : List ℕ
  pub prints : Prints text printed
  pub apart : IsApart same old print.target print.rules
  pub placed : IsPlaced places print.target printed old new

-- The files that were made for the request.
abbrev pub HasPlaced : {S T : Type 0} → (S → List ℕ → PlainInput → S → Type 0) → (T → List ℕ → List ℕ → T → Type 0) → (T → List ℕ → List ℕ → Bool → Type 0) → S → T → T → Option Asked → Type 0
HasPlaced gives places same before old new (Some (gen print)) = HasPlacedText gives places same (PrintsSpecification print.c) print before old new
HasPlaced gives places same before old new (Some (up print)) = HasPlacedText gives places same (PrintsTables print.c) print before old new
HasPlaced gives places same before old new (Some (run order)) = new ≡ old
HasPlaced gives places same before old new (Some (scan order)) = new ≡ old
HasPlaced gives places same before old new (Some stored) = new ≡ old
HasPlaced gives places same before old new (Some (check c)) = new ≡ old
HasPlaced gives places same before old new (Some (explain word)) = new ≡ old
HasPlaced gives places same before old new (Some (show s)) = new ≡ old
HasPlaced gives places same before old new (Some (imports i)) = HasPlacedImport gives places same i before old new
HasPlaced gives places same before old new None = new ≡ old

-- ---- failure

-- the names of the files that the arguments list
abbrev pub files_asked : Asked → List (List ℕ)
files_asked stored = []
files_asked (run order) = order.files
files_asked (scan order) = order.files
files_asked (gen print) = []
files_asked (up print) = []
files_asked (check c) = []
files_asked (explain word) = []
files_asked (show s) = []
files_asked (imports i) = []

-- the names among the arguments of a listing: that of the specification or the tables, that of LIST, and those of the files
abbrev pub names_of_order : PlainOrder → List (List ℕ)
names_of_order order = order.rules ∷ (option_map_or (λ list. list.name ∷ []) order.list [] ++ order.files)

-- the names of all files that the arguments name
abbrev pub names_asked : Asked → List (List ℕ)
names_asked stored = []
names_asked (run order) = names_of_order order
names_asked (scan order) = names_of_order order
names_asked (gen print) = print.rules ∷ []
names_asked (up print) = print.rules ∷ []
names_asked (check c) = c.rules ∷ []
names_asked (explain word) = []
names_asked (show s) = s.rules ∷ []
names_asked (imports i) = i.rules ∷ []

-- the number of them that are standard input
abbrev pub inputs_asked : Asked → ℕ
inputs_asked stored = 0
inputs_asked (run order) = input_uses order order.files
inputs_asked (scan order) = input_uses order order.files
inputs_asked (gen print) = input_count print.rules
inputs_asked (up print) = input_count print.rules
inputs_asked (check c) = input_count c.rules
inputs_asked (explain word) = 0
inputs_asked (show s) = input_count s.rules
inputs_asked (imports i) = input_count i.rules

-- The sources gave the text with this name, whole, which is rejected.
pub record IsTextRefused {S : Type 0} (gives : S → List ℕ → PlainInput → S → Type 0) (Refuses : List ℕ → Type 0) (name : List ℕ) (before : S) : Type 0 where
  pub text : List ℕ
  pub after : S
  pub given : gives before name (whole text) after
  pub refused : Refuses text

-- the specification or the tables are rejected, or the word is unknown
abbrev pub AreRulesRefused : {S : Type 0} → (S → List ℕ → PlainInput → S → Type 0) → S → Asked → CommandFault → Type 0
AreRulesRefused gives before stored failure = HasNoTables stored_specification failure
AreRulesRefused gives before (run order) failure = IsTextRefused gives (λ text. HasNoTables text failure) order.rules before
AreRulesRefused gives before (scan order) failure = IsTextRefused gives (λ text. IsNoTable text failure) order.rules before
AreRulesRefused gives before (gen print) failure = IsTextRefused gives (λ text. HasNoTables text failure ⊎ AreKindsOfSpecificationRefused print.c text failure) print.rules before
AreRulesRefused gives before (up print) failure = IsTextRefused gives (λ text. IsNoTable text failure ⊎ AreKindsOfTablesRefused print.c text failure) print.rules before
AreRulesRefused gives before (check c) failure = IsTextRefused gives (λ text. IsReported c text failure) c.rules before
AreRulesRefused gives before (explain word) failure = IsUnexplained word failure
AreRulesRefused gives before (show s) failure = IsTextRefused gives (λ text. IsNotShown s text failure) s.rules before
AreRulesRefused gives before (imports i) failure = IsTextRefused gives (λ text. IsNotImported failure) i.rules before

-- the arguments of a listing are rejected
abbrev pub AreWordsRefused : PlainOrder → CommandFault → Type 0
AreWordsRefused order failure =
    ((failure ≡ TooManyFiles) × (max_files < length order.files))
    ⊎ (((failure ≡ InputTwice) × (1 < input_uses order order.files))
    ⊎ ((fault : RequestFault) × (failure ≡ Refused fault) × IsWordsFault order fault))

-- The sources gave the text with the order's first name, whole. It has these tables, which have the property then.
pub record RulesGiven {S : Type 0} (gives : S → List ℕ → PlainInput → S → Type 0) (AreTables : List ℕ → Table → Type 0) (order : PlainOrder) (before : S) (Holds : Table → S → Type 0) : Type 0 where
  pub text : List ℕ
  pub between : S
  pub given : gives before order.rules (whole text) between
  pub table : Table
  pub tables : AreTables text table
  pub holds : Holds table between

-- a listing was rejected once its specification or its tables were taken
abbrev pub IsRefusedLater : {S : Type 0} → (S → List ℕ → PlainInput → S → Type 0) → S → Asked → CommandFault → Type 0
IsRefusedLater gives before stored failure = ⊥
IsRefusedLater gives before (run order) failure = RulesGiven gives AreTablesOfText order before (λ table between. IsListingRefused gives order table between failure)
IsRefusedLater gives before (scan order) failure = RulesGiven gives AreTablesIn order before (λ table between. IsListingRefused gives order table between failure)
IsRefusedLater gives before (gen print) failure = ⊥
IsRefusedLater gives before (up print) failure = ⊥
IsRefusedLater gives before (check c) failure = ⊥
IsRefusedLater gives before (explain word) failure = ⊥
IsRefusedLater gives before (show s) failure = ⊥
IsRefusedLater gives before (imports i) failure = ⊥

-- A listing with `--stream` was written up to the file that the failure names.
abbrev pub IsStopped : {S : Type 0} → (S → List ℕ → PlainInput → S → Type 0) → S → Option (List ℕ) → Option (List ℕ) → CommandFault → Asked → Type 0
IsStopped gives before old new failure stored = ⊥
IsStopped gives before old new failure (run order) = RulesGiven gives AreTablesOfText order before (λ table between. HasStopped gives order table between old new failure)
IsStopped gives before old new failure (scan order) = RulesGiven gives AreTablesIn order before (λ table between. HasStopped gives order table between old new failure)
IsStopped gives before old new failure (gen print) = ⊥
IsStopped gives before old new failure (up print) = ⊥
IsStopped gives before old new failure (check c) = ⊥
IsStopped gives before old new failure (explain word) = ⊥
IsStopped gives before old new failure (show s) = ⊥
IsStopped gives before old new failure (imports i) = ⊥

-- `-o` is given, and no files can be made, or its file is the input
abbrev pub IsTargetRefused : PlainPrint → RequestFault → Type 0
IsTargetRefused print fault = ((fault ≡ NoTargets) × (print.target ≢ None)) ⊎ ((f : OutputFault) × (fault ≡ Outputs f) × IsOverwritten f print.target print.rules)

-- the fault for which the text of tables isn't put into a file
abbrev pub IsPlacingFault : CommandFault → Type 0
IsPlacingFault failure = (failure ≡ Refused NoTargets) ⊎ ((failure ≡ Output) ⊎ (failure ≡ Memory))

-- the arguments for the form of a listing, for its files, for the file of `-o`, or for a scanner in C are rejected
abbrev pub IsFormRefused : Asked → RequestFault → Type 0
IsFormRefused stored fault = ⊥
IsFormRefused (run order) fault = IsWordsFault order fault
IsFormRefused (scan order) fault = IsWordsFault order fault
IsFormRefused (gen print) fault = IsTargetRefused print fault ⊎ IsScannerFault print.c fault
IsFormRefused (up print) fault = IsTargetRefused print fault ⊎ IsScannerFault print.c fault
IsFormRefused (check c) fault = IsCheckWordsFault c fault
IsFormRefused (explain word) fault = ⊥
IsFormRefused (show s) fault = ⊥
IsFormRefused (imports i) fault = AreImportWordsRefused i fault

-- the cause for which a request was not carried out
abbrev pub HasCause : {S : Type 0} → (S → List ℕ → PlainInput → S → Type 0) → S → Asked → CommandFault → Type 0
HasCause gives before asked (Specification fault) = AreRulesRefused gives before asked (Specification fault)
HasCause gives before asked (Automaton fault) = AreRulesRefused gives before asked (Automaton fault)
HasCause gives before asked (Tables fault) = AreRulesRefused gives before asked (Tables fault)
HasCause gives before asked (Unprintable fault) = AreRulesRefused gives before asked (Unprintable fault)
HasCause gives before asked (Words error) = ⊥
HasCause gives before asked TooManyFiles = (max_files < length (files_asked asked)) ⊎ IsRefusedLater gives before asked TooManyFiles
HasCause gives before asked InputTwice = (1 < inputs_asked asked) ⊎ IsRefusedLater gives before asked InputTwice
HasCause gives before asked (Refused fault) = IsFormRefused asked fault ⊎ IsRefusedLater gives before asked (Refused fault)
HasCause gives before asked (NotRead name) = Contains (names_asked asked) name.now ⊎ IsRefusedLater gives before asked (NotRead name)
HasCause gives before asked Output = ⊥
HasCause gives before asked Memory = ⊥

-- ---- both, by the request, if the arguments make one

-- It was carried out; or the arguments make no request except for help.
abbrev pub HasObeyed : {S : Type 0} → (S → List ℕ → PlainInput → S → Type 0) → S → S → Option (List ℕ) → Option (List ℕ) → List (List ℕ) → Option Asked → Type 0
HasObeyed gives before after old new cut None = cut ≡ []
HasObeyed gives before after old new cut (Some asked) = HasDone gives before after old new cut asked

-- All was listed, but some files were cut short.
pub record IsCutShort {S : Type 0} (gives : S → List ℕ → PlainInput → S → Type 0) (asked : Option Asked) (before after : S) (old new : Option (List ℕ)) : Type 0 where
  pub cut : List (List ℕ)
  pub some : cut ≢ []
  pub done : IsSomeAnd asked (HasDone gives before after old new cut)

-- Nothing was written: the arguments make no request, or it was not carried out, for a cause that isn't the output or memory.
pub record IsRefused {S : Type 0} (gives : S → List ℕ → PlainInput → S → Type 0) (asked : Option Asked) (before : S) (old new : Option (List ℕ)) (failure : CommandFault) : Type 0 where
  pub cause : MatchOption asked (status_of failure ≡ 2) (λ a. HasCause gives before a failure)
  pub tells : HidesNoMemory failure
  pub kept : Keeps old new

-- If a command failed for a cause that isn't the output or memory, it was rejected.
abbrev pub HasFailed : {S : Type 0} → (S → List ℕ → PlainInput → S → Type 0) → Option Asked → S → Option (List ℕ) → Option (List ℕ) → CommandFault → Type 0
HasFailed gives asked before old new failure = status_of failure < 4 → IsRefused gives asked before old new failure

-- It was rejected then, or its listing with `--stream` stopped at a file.
abbrev pub HasFailedOrStopped : {S : Type 0} → (S → List ℕ → PlainInput → S → Type 0) → Option Asked → S → Option (List ℕ) → Option (List ℕ) → CommandFault → Type 0
HasFailedOrStopped gives asked before old new failure = status_of failure < 4 → IsRefused gives asked before old new failure ⊎ IsSomeAnd asked (IsStopped gives before old new failure)

-- The request was not carried out, for a cause that isn't the output or memory. Only the report of `check` was written, if there is one.
pub record IsTold {S : Type 0} (gives : S → List ℕ → PlainInput → S → Type 0) (asked : Option Asked) (before : S) (old new : Option (List ℕ)) (failure : CommandFault) : Type 0 where
  pub cause : MatchOption asked (status_of failure ≡ 2) (λ a. HasCause gives before a failure)
  pub tells : HidesNoMemory failure
  pub wrote : WroteReport failure old new

abbrev pub HasToldFailure : {S : Type 0} → (S → List ℕ → PlainInput → S → Type 0) → Option Asked → S → Option (List ℕ) → Option (List ℕ) → CommandFault → Type 0
HasToldFailure gives asked before old new failure = status_of failure < 4 → IsTold gives asked before old new failure ⊎ IsSomeAnd asked (IsStopped gives before old new failure)

-- The facts at an exit status from 1 to 3: a cut file, the cause for which the arguments were rejected or not carried out, or a listing that stopped.
abbrev pub HasEnded : {S : Type 0} → (S → List ℕ → PlainInput → S → Type 0) → Option Asked → S → S → Option (List ℕ) → Option (List ℕ) → ℕ → Type 0
HasEnded gives asked before after old new status =
    ((status ≡ 3) × IsCutShort gives asked before after old new)
    ⊎ ((failure : CommandFault) × (status ≡ status_of failure) × (IsTold gives asked before old new failure ⊎ IsSomeAnd asked (IsStopped gives before old new failure)))
