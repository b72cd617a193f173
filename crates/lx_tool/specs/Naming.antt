-- The files that a listing's arguments name, and those that LIST names after them; and the form that the arguments ask for.
use Rattle.std.specs.Prelude.{◌≡◌, ◌≢◌, ℕ, ◌+◌, ◌-◌, ◌<◌, ◌≤◌, ◌⊎◌, ⊤, Bool, true, if◌then◌else◌, List, [], ◌∷◌, Option, Some, None, Contains, IsSomeAnd, MatchOption, codes, length, map}
use Rattle.std.specs.Option.{option_map_or}
use Rattle.std.specs.Str.{bytes_eq}
use Rattle.lx_tables.specs.Model.{Table}
use Rattle.lx_piece.specs.Plans.{PlainInput, max_files}
use Rattle.lx_forms.specs.declared.format.Format.{Format}
use Rattle.lx_forms.specs.declared.format.Format.TheVariants.{Lines, Json}
use Rattle.lx_forms.specs.Choosing.{IsChosen, IsNoChoice, IsRefusedChoice, IsUnknown}
use Rattle.lx_forms.specs.Forms.{PlainForm, Selected}
use Rattle.lx_forms.specs.NameLists.{AreNamed, HasMoreNames, IsNoName}
use Rattle.lx_cli.specs.CommandLine.{PlainFormWords, PlainList, PlainOrder, max_number}
use Rattle.lx_forms.specs.declared.choosing.ChoiceFault.{ChoiceFault}
use Rattle.lx_tool.specs.Names.{name_bytes}
use Rattle.lx_tool.specs.Sources.{whole}
use Rattle.lx_tool.specs.Statuses.{failure_of_choice}
use Rattle.lx_tool.specs.declared.failure.CommandFault.{CommandFault}
use Rattle.lx_tool.specs.declared.failure.CommandFault.TheVariants.{Specification, Automaton, Tables, Unprintable, Words, TooManyFiles, InputTwice, Refused, NotRead, Output, Memory}
use Rattle.lx_tool.specs.declared.failure.RequestFault.{RequestFault}
use Rattle.lx_tool.specs.declared.failure.RequestFault.TheVariants.{NoKind, EmptyKind, NoFormat, NoFile, NoName, StreamWorkers, NoScanner, NoTargets, NoWarning, Outputs, Scanner, ScannerAndHeader, NumberTooLarge, FlexLater}

-- ---- the names of files

-- The sources gave the text of LIST, whole, and its names come after these.
pub record AreListNames {S : Type 0} (gives : S → List ℕ → PlainInput → S → Type 0) (list : PlainList) (files : List (List ℕ)) (before after : S) (names : List (List ℕ)) : Type 0 where
  pub text : List ℕ
  pub given : gives before list.name (whole text) after
  pub named : AreNamed list.separator text files names

-- the names of a listing's files: those of the arguments, and after them those of LIST, if it is given
abbrev pub AreFileNames : {S : Type 0} → (S → List ℕ → PlainInput → S → Type 0) → PlainOrder → S → S → List (List ℕ) → Type 0
AreFileNames gives order before after names =
    MatchOption order.list ((names ≡ order.files) × (after ≡ before)) (λ list. AreListNames gives list order.files before after names)

-- one for the name of standard input
abbrev pub input_count : List ℕ → ℕ
input_count name = if bytes_eq name (codes "-") then 1 else 0

-- the number of names that are that of standard input
abbrev pub inputs_among : List (List ℕ) → ℕ
inputs_among [] = 0
inputs_among (name ∷ names) = input_count name + inputs_among names

-- one for LIST if it is standard input
abbrev pub list_input : PlainOrder → ℕ
list_input order = option_map_or (λ list. input_count list.name) order.list 0

-- the number of uses of standard input: as specification or tables, as LIST and as one of these files
abbrev pub input_uses : PlainOrder → List (List ℕ) → ℕ
input_uses order names = input_count order.rules + list_input order + inputs_among names

-- the sources gave the text of LIST, and it has this property
pub record ListSays {S : Type 0} (gives : S → List ℕ → PlainInput → S → Type 0) (list : PlainList) (before : S) (Says : List ℕ → Type 0) : Type 0 where
  pub text : List ℕ
  pub after : S
  pub given : gives before list.name (whole text) after
  pub says : Says text

-- these names are those of the files, and have this property
pub record FilesHave {S : Type 0} (gives : S → List ℕ → PlainInput → S → Type 0) (order : PlainOrder) (before : S) (Have : List (List ℕ) → Type 0) : Type 0 where
  pub names : List (List ℕ)
  pub after : S
  pub named : AreFileNames gives order before after names
  pub have : Have names

-- `--format` isn't given, or its word is known
abbrev pub IsKnownFormat : Option (List ℕ) → Type 0
IsKnownFormat None = ⊤
IsKnownFormat (Some word) = (word ≡ codes "json") ⊎ (word ≡ codes "text")

-- The facts about the arguments and the names of listed files. The form is known, there is a name, standard input is read at most once, and each file
-- has a number.
pub record AreJudged (order : PlainOrder) (names : List (List ℕ)) : Type 0 where
  pub format : IsKnownFormat order.form.format
  pub some : 0 < length names
  pub inputs : input_uses order names ≤ 1
  pub numbers : order.form.first + length names ≤ max_number + 1

-- ---- the form

-- the word of `--format`: none, `text` or `json`
abbrev pub is_json : List ℕ → Bool
is_json word = bytes_eq word (codes "json")

abbrev pub format_by : Option (List ℕ) → Format
format_by None = Lines
format_by (Some word) = if is_json word then Json else Lines

-- the kinds that `--only` selects, by the kinds of the tables
abbrev pub IsOnly : Table → Option (List ℕ) → Option Selected → Type 0
IsOnly table None only = only ≡ None
IsOnly table (Some text) only = IsSomeAnd only (IsChosen table text)

-- the form that the arguments ask for, of files with these names, by these tables
pub record IsFormOf (words : PlainFormWords) (table : Table) (names : List (List ℕ)) (form : PlainForm) : Type 0 where
  pub first : form.first ≡ words.first
  pub names_are : form.names ≡ (if words.names then Some (map name_bytes names) else None)
  pub only : IsOnly table words.only form.only
  pub text : form.text ≡ words.text
  pub format : form.format ≡ format_by words.format

-- ---- rejections

-- the fault for which a listing's arguments alone are rejected
abbrev pub IsWordsFault : PlainOrder → RequestFault → Type 0
IsWordsFault order (NoFormat word) = (order.form.format ≡ Some word.now) × (word.now ≢ codes "json") × (word.now ≢ codes "text")
IsWordsFault order NoFile = (order.files ≡ []) × (order.list ≡ None)
IsWordsFault order StreamWorkers = (order.stream ≡ true) × (0 < order.workers)
IsWordsFault order (NoKind word) = ⊥
IsWordsFault order EmptyKind = ⊥
IsWordsFault order (NoName line list) = ⊥
IsWordsFault order NoTargets = ⊥
IsWordsFault order (Outputs f) = ⊥
IsWordsFault order (NoWarning word) = ⊥
IsWordsFault order ScannerAndHeader = ⊥
IsWordsFault order NoScanner = ⊥
IsWordsFault order (Scanner f) = ⊥
IsWordsFault order NumberTooLarge = ⊥
IsWordsFault order FlexLater = ⊥

-- the fault for which a listing's files or its form are rejected, given its tables
abbrev pub IsListingFault : {S : Type 0} → (S → List ℕ → PlainInput → S → Type 0) → PlainOrder → Table → S → RequestFault → Type 0
IsListingFault gives order table before (NoFormat word) = ⊥
IsListingFault gives order table before StreamWorkers = ⊥
IsListingFault gives order table before NoFile = FilesHave gives order before (λ names. names ≡ [])
IsListingFault gives order table before (NoKind word) = IsSomeAnd order.form.only (λ text. IsUnknown table text word.now)
IsListingFault gives order table before EmptyKind = IsSomeAnd order.form.only IsNoChoice
IsListingFault gives order table before (NoName line list) =
    IsSomeAnd order.list (λ l. (list.now ≡ l.name) × ListSays gives l before (λ text. IsNoName l.separator text line))
IsListingFault gives order table before NoTargets = ⊥
IsListingFault gives order table before (Outputs f) = ⊥
IsListingFault gives order table before (NoWarning word) = ⊥
IsListingFault gives order table before ScannerAndHeader = ⊥
IsListingFault gives order table before NoScanner = ⊥
IsListingFault gives order table before (Scanner f) = ⊥
IsListingFault gives order table before NumberTooLarge = FilesHave gives order before (λ names. max_number + 1 < order.form.first + length names)
IsListingFault gives order table before FlexLater = ⊥

-- LIST names more files than may follow those of the arguments
abbrev pub IsListTooLong : {S : Type 0} → (S → List ℕ → PlainInput → S → Type 0) → PlainOrder → S → Type 0
IsListTooLong gives order before = IsSomeAnd order.list (λ l. ListSays gives l before (λ text. HasMoreNames l.separator text (max_files - length order.files)))

-- the cause for which a listing is rejected before its first line, given its tables: its form, its names, or a file that can't be read
abbrev pub IsListingRefused : {S : Type 0} → (S → List ℕ → PlainInput → S → Type 0) → PlainOrder → Table → S → CommandFault → Type 0
IsListingRefused gives order table before (Specification fault) = ⊥
IsListingRefused gives order table before (Automaton fault) = ⊥
IsListingRefused gives order table before (Tables fault) = ⊥
IsListingRefused gives order table before (Unprintable fault) = ⊥
IsListingRefused gives order table before (Words error) = ⊥
IsListingRefused gives order table before TooManyFiles = IsListTooLong gives order before
IsListingRefused gives order table before InputTwice = FilesHave gives order before (λ names. 1 < input_uses order names)
IsListingRefused gives order table before (Refused fault) = IsListingFault gives order table before fault
IsListingRefused gives order table before (NotRead name) =
    IsSomeAnd order.list (λ l. name.now ≡ l.name) ⊎ FilesHave gives order before (λ names. Contains names name.now)
IsListingRefused gives order table before Output = ⊥
IsListingRefused gives order table before Memory = ⊤

-- ---- each of them, by the step at which it is rejected

-- `--format` has an unknown word
abbrev pub IsFormatFault : PlainFormWords → RequestFault → Type 0
IsFormatFault words (NoFormat word) = (words.format ≡ Some word.now) × (word.now ≢ codes "json") × (word.now ≢ codes "text")
IsFormatFault words NoFile = ⊥
IsFormatFault words StreamWorkers = ⊥
IsFormatFault words (NoKind word) = ⊥
IsFormatFault words EmptyKind = ⊥
IsFormatFault words (NoName line list) = ⊥
IsFormatFault words NoTargets = ⊥
IsFormatFault words (Outputs f) = ⊥
IsFormatFault words (NoWarning word) = ⊥
IsFormatFault words ScannerAndHeader = ⊥
IsFormatFault words NoScanner = ⊥
IsFormatFault words (Scanner f) = ⊥
IsFormatFault words NumberTooLarge = ⊥
IsFormatFault words FlexLater = ⊥

-- these names of files are rejected
abbrev pub AreNamesRefused : PlainOrder → List (List ℕ) → CommandFault → Type 0
AreNamesRefused order names failure =
    ((failure ≡ Refused NoFile) × (names ≡ []))
    ⊎ (((failure ≡ InputTwice) × (1 < input_uses order names))
    ⊎ ((failure ≡ Refused NumberTooLarge) × (max_number + 1 < order.form.first + length names)))

-- LIST can't be read, or its names are rejected, or an allocation failed
abbrev pub IsListRefused : {S : Type 0} → (S → List ℕ → PlainInput → S → Type 0) → PlainList → List (List ℕ) → S → CommandFault → Type 0
IsListRefused gives list files before failure =
    (failure ≡ Memory)
    ⊎ (((name : _) × (failure ≡ NotRead name) × (name.now ≡ list.name))
    ⊎ (((failure ≡ TooManyFiles) × ListSays gives list before (λ text. HasMoreNames list.separator text (max_files - length files)))
    ⊎ ((line : ℕ) × (name : _) × (failure ≡ Refused (NoName line name)) × (name.now ≡ list.name) × ListSays gives list before (λ text. IsNoName list.separator text line))))

-- so are the names of the files
abbrev pub AreNamesUnread : {S : Type 0} → (S → List ℕ → PlainInput → S → Type 0) → PlainOrder → S → CommandFault → Type 0
AreNamesUnread gives order before failure = (failure ≡ Memory) ⊎ IsSomeAnd order.list (λ list. IsListRefused gives list order.files before failure)

-- `--only` is rejected, or an allocation failed
abbrev pub IsOnlyRefused : Table → Option (List ℕ) → CommandFault → Type 0
IsOnlyRefused table only failure = IsSomeAnd only (λ text. (fault : ChoiceFault) × (failure ≡ failure_of_choice fault) × IsRefusedChoice table text fault)
