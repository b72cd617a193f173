-- The command line of `lx`, and the requests of its arguments.
use Rattle.std.specs.Prelude.{ℕ, Bool, true, false, not, List, [], ◌∷◌, map, length, nat_le, Option, Some, None, pos, codes, unwrap_or, if◌then◌else◌, option_map, option_and_then, slice_index, ◌≡◌, ◌≢◌, IfSome, All, ◌<◌, ◌++◌, ◌⊎◌}
use Rattle.std.specs.Option.{option_map_or}
use Rattle.std.specs.Str.{bytes_eq}
use Rattle.std.specs.Str.Parse.{digits_value, without_leading_plus}
use Rattle.clap.specs.declared.builder.action.ArgAction.TheVariants.{Append, SetTrue}
use Rattle.clap.specs.declared.builder.value_parser.ValueParser.TheVariants.{Signed}
use Rattle.clap.specs.declared.error.ErrorKind.{ErrorKind}
use Rattle.clap.specs.Lexer.{usize_max}
use Rattle.clap.specs.Simple.{on_top}
use Rattle.clap.specs.ValueTests.{is_unsigned_in}
use Rattle.clap.specs.Walk.{is_empty}
use Rattle.clap.specs.Words.{App, IsAmong, Row, Rule, Text, all_of, fault_of, first_of, new_app, new_rule, one_of, subcommand_of, with_rule, with_subcommand}
use Rattle.std.specs.declared.alloc.Global.{Global}
use Rattle.std.specs.declared.string.String.{String}
use Rattle.lx_piece.specs.Plans.{max_items, max_workers}
use Rattle.lx_cli.specs.Limits.{most_told}
use Rattle.lx_cli.specs.declared.request.CWords.{CWords}
use Rattle.lx_cli.specs.declared.request.CheckWords.{CheckWords}
use Rattle.lx_cli.specs.declared.request.FormWords.{FormWords}
use Rattle.lx_cli.specs.declared.request.ImportWords.{ImportWords}
use Rattle.lx_cli.specs.declared.request.ListRequest.{ListRequest}
use Rattle.lx_cli.specs.declared.request.ListWords.{ListWords}
use Rattle.lx_cli.specs.declared.request.PrintWords.{PrintWords}
use Rattle.lx_cli.specs.declared.request.Request.{Request}
use Rattle.lx_cli.specs.declared.request.ShowWords.{ShowWords}
use Rattle.lx_cli.specs.declared.request.Request.TheVariants as request

-- words, as texts
abbrev pub words_of : List (String Global) → List Text
words_of words = map (λ word. word.bytes.items) words

-- the greatest number of a file
abbrev pub max_number : ℕ
max_number = 4294967295

-- ---- the command line, as `clap` reads it

-- SPEC or TABLES, the name of a file
abbrev pub rules_rule : Text → Rule
rules_rule id = record (new_rule id) { required = true }

-- `-b K`, from 1 to `max_items`, and 256 by default
abbrev pub items_rule : Rule
items_rule = record (new_rule (codes "items")) {
  short = Some 98;
  value_names = 1;
  parser = Some (Signed (pos 1) (pos max_items));
  defaults = codes "256" ∷ [];
}

-- `-j N`, from 1 to `max_workers`
abbrev pub workers_rule : Rule
workers_rule = record (new_rule (codes "workers")) {
  short = Some 106;
  value_names = 1;
  parser = Some (Signed (pos 1) (pos max_workers));
}

-- an option with a value
abbrev pub option_rule : Text → Text → Rule
option_rule id long = record (new_rule id) { long = Some long; value_names = 1 }

-- `--files-from LIST`
abbrev pub list_rule : Rule
list_rule = option_rule (codes "list") (codes "files-from")

-- `-0`
abbrev pub zeros_rule : Rule
zeros_rule = record (new_rule (codes "zeros")) { short = Some 48; action = Some SetTrue }

-- `--first N`, from 0 to `max_number`, and 0 by default
abbrev pub first_rule : Rule
first_rule = record (option_rule (codes "first") (codes "first")) {
  parser = Some (Signed (pos 0) (pos max_number));
  defaults = codes "0" ∷ [];
}

-- an option without a value
abbrev pub flag_rule : Text → Rule
flag_rule long = record (new_rule long) { long = Some long; action = Some SetTrue }

-- FILE..
abbrev pub files_rule : Rule
files_rule = record (new_rule (codes "FILE")) {
  range = Some (record { start_inclusive = 1; end_inclusive = usize_max });
  action = Some Append;
}

-- `-o FILE`
abbrev pub target_rule : Rule
target_rule = record (new_rule (codes "target")) { short = Some 111; value_names = 1 }

-- `[--c] [--header] [--prefix P] [--include FILE] [--direct]`
abbrev pub with_c : App → App
with_c app =
    with_rule (with_rule (with_rule (with_rule (with_rule app (flag_rule (codes "c"))) (flag_rule (codes "header"))) (option_rule (codes "prefix") (codes "prefix"))) (option_rule (codes "include") (codes "include"))) (flag_rule (codes "direct"))

-- `gen` and `up`: `[-o FILE]`, the arguments for a scanner in C, and SPEC or TABLES
abbrev pub one_file_app : Text → Text → App
one_file_app name id = with_rule (with_c (with_rule (new_app name) target_rule)) (rules_rule id)

-- `-q`
abbrev pub quiet_rule : Rule
quiet_rule = record (new_rule (codes "quiet")) { short = Some 113; action = Some SetTrue }

-- `-W NAME`, any number of times
abbrev pub warnings_rule : Rule
warnings_rule = record (new_rule (codes "warnings")) { short = Some 87; value_names = 1; action = Some Append }

-- `--most N`, from 1 to `most_told`, and 20 by default
abbrev pub most_rule : Rule
most_rule = record (option_rule (codes "most") (codes "most")) {
  parser = Some (Signed (pos 1) (pos most_told));
  defaults = codes "20" ∷ [];
}

-- `[--flex] [-q] [-W NAME].. [--most N] [--json] SPEC`
abbrev pub check_app : App
check_app =
    with_rule (with_rule (with_rule (with_rule (with_rule (with_rule (new_app (codes "check")) (flag_rule (codes "flex"))) quiet_rule) warnings_rule) most_rule) (flag_rule (codes "json"))) (rules_rule (codes "SPEC"))

-- `[WORD]`
abbrev pub explain_app : App
explain_app = with_rule (new_app (codes "explain")) (new_rule (codes "WORD"))

-- `[--all] RULES`
abbrev pub show_app : App
show_app = with_rule (with_rule (new_app (codes "show")) (flag_rule (codes "all"))) (rules_rule (codes "RULES"))

-- `-c FILE`
abbrev pub actions_rule : Rule
actions_rule = record (new_rule (codes "actions")) { short = Some 99; value_names = 1 }

-- `[-o FILE] [-c FILE] [--prefix P] [--lossy] FLEX`
abbrev pub import_app : App
import_app =
    with_rule (with_rule (with_rule (with_rule (with_rule (new_app (codes "import")) target_rule) actions_rule) (option_rule (codes "prefix") (codes "prefix"))) (flag_rule (codes "lossy"))) (rules_rule (codes "FLEX"))

-- `[--names] [--only KIND,..] [--no-text] [--format FORMAT]`
abbrev pub with_form : App → App
with_form app =
    with_rule (with_rule (with_rule (with_rule app (flag_rule (codes "names"))) (option_rule (codes "only") (codes "only"))) (flag_rule (codes "no-text"))) (option_rule (codes "format") (codes "format"))

-- `[--first N] [--files-from LIST] [-0]`
abbrev pub with_list : App → App
with_list app = with_rule (with_rule (with_rule app first_rule) list_rule) zeros_rule

-- `[-j N] [-b K] [--stream]`, the form, LIST, SPEC or TABLES, and FILE..
abbrev pub list_app : Text → Text → App
list_app name id =
    with_rule (with_rule (with_list (with_form (with_rule (with_rule (with_rule (new_app name) workers_rule) items_rule) (flag_rule (codes "stream"))))) (rules_rule id)) files_rule

-- a subcommand has to be given, and none is `help`; there is a version
abbrev pub bare_app : App
bare_app = on_top (λ s. record s { disable_help_subcommand = true; subcommand_required = true; has_version = true }) (new_app (codes "lx"))

-- the commands that list, and those that print the tables for listing
abbrev pub with_listings : App → App
with_listings app = with_subcommand (with_subcommand (with_subcommand (with_subcommand app
    (one_file_app (codes "gen") (codes "SPEC")).top) (one_file_app (codes "up") (codes "TABLES")).top)
    (list_app (codes "scan") (codes "TABLES")).top) (list_app (codes "run") (codes "SPEC")).top

-- the commands that help to write a specification
abbrev pub with_further : App → App
with_further app = with_subcommand (with_subcommand (with_subcommand (with_subcommand app check_app.top) explain_app.top) show_app.top) import_app.top

unfoldable pub lx_app : App
lx_app = with_further (with_listings bare_app)

-- ---- the requests of arguments

-- LIST, a file that names files: its name, and the byte that ends each of theirs
pub record PlainList : Type 0 where
  pub name : Text
  pub separator : ℕ

-- the form of a listing: the number of the first file, a flag for names instead of numbers, the kinds of `--only`, if it is given, a flag for texts,
-- and the word of `--format`, if it is given
pub record PlainFormWords : Type 0 where
  pub first : ℕ
  pub names : Bool
  pub only : Option Text
  pub text : Bool
  pub format : Option Text

-- a listing: the number of workers that scan the files, with 0 for the calling thread; the number of items of a piece; a flag for files that are listed
-- while they are read; the name of the specification or of the tables; the names of the files; LIST, if it is given; and the form
pub record PlainOrder : Type 0 where
  pub workers : ℕ
  pub per_piece : ℕ
  pub stream : Bool
  pub rules : Text
  pub files : List Text
  pub list : Option PlainList
  pub form : PlainFormWords

-- a C scanner: flags for the scanner and for its declarations, the prefix of its names, if it is given, the file that declares its kinds, if it is
-- given, and a flag for direct code
pub record PlainC : Type 0 where
  pub scanner : Bool
  pub header : Bool
  pub prefix : Option Text
  pub include : Option Text
  pub direct : Bool

-- a text that is printed: the name of its source, the output file, if it is given, and the options for a C scanner
pub record PlainPrint : Type 0 where
  pub rules : Text
  pub target : Option Text
  pub c : PlainC

-- a check of a specification: its name, a flag for quiet findings, the words of `-W`, in order, the greatest number of errors, a flag for JSON,
-- and one for a file for flex
pub record PlainCheck : Type 0 where
  pub rules : Text
  pub quiet : Bool
  pub warnings : List Text
  pub most : ℕ
  pub json : Bool
  pub flex : Bool

-- a graph: the name of a specification or of tables, and a flag for any number of states
pub record PlainShow : Type 0 where
  pub rules : Text
  pub all : Bool

-- an import of a specification for flex: its name, the files that get the new specification and the actions, if they are given, the prefix of the
-- kinds' names, if it is given, and a flag for leaving out what can't be imported
pub record PlainImport : Type 0 where
  pub rules : Text
  pub target : Option Text
  pub actions : Option Text
  pub prefix : Option Text
  pub lossy : Bool

pub data Asked : Type 0 where
  stored : Asked
  run : PlainOrder → Asked
  scan : PlainOrder → Asked
  gen : PlainPrint → Asked
  up : PlainPrint → Asked
  check : PlainCheck → Asked
  explain : Option Text → Asked
  show : PlainShow → Asked
  imports : PlainImport → Asked

-- the number of an option, from 1 to `most`, and `default` if it isn't given
abbrev pub number_in : Text → ℕ → ℕ → List Row → ℕ
number_in id most default rows = option_map_or (λ t. if is_unsigned_in 1 most t then digits_value 10 (without_leading_plus t) else default) (one_of id rows) default

-- the number of `-b`
abbrev pub items_in : List Row → ℕ
items_in rows = number_in (codes "items") max_items 256 rows

-- the number of `-j`
abbrev pub workers_in : ℕ → List Row → ℕ
workers_in default rows = number_in (codes "workers") max_workers default rows

abbrev pub rules_in : Text → List Row → Text
rules_in id rows = unwrap_or (first_of id rows) []

-- all values of an argument, in order
abbrev pub values_in : Text → List Row → List Text
values_in id rows = unwrap_or (all_of id rows) []

-- true if a flag is given
abbrev pub flag_in : Text → List Row → Bool
flag_in id rows = option_map_or (λ t. bytes_eq t (codes "true")) (first_of id rows) false

-- the number of `--first`
abbrev pub first_in : List Row → ℕ
first_in rows = option_map_or (λ t. if is_unsigned_in 0 max_number t then digits_value 10 (without_leading_plus t) else 0) (one_of (codes "first") rows) 0

-- LIST, with zeros after its names if `-0` is given, and otherwise newlines
abbrev pub list_in : List Row → Option PlainList
list_in rows = option_map (λ name. record { name = name; separator = if flag_in (codes "zeros") rows then 0 else 10 }) (first_of (codes "list") rows)

abbrev pub form_in : List Row → PlainFormWords
form_in rows = record {
  first = first_in rows;
  names = flag_in (codes "names") rows;
  only = first_of (codes "only") rows;
  text = not (flag_in (codes "no-text") rows);
  format = first_of (codes "format") rows;
}

-- a listing, by `workers` workers if `-j` isn't given, or on the calling thread with `--stream`
abbrev pub request_in : Text → ℕ → List Row → PlainOrder
request_in id workers rows = record {
  workers = workers_in (if flag_in (codes "stream") rows then 0 else workers) rows;
  per_piece = items_in rows;
  stream = flag_in (codes "stream") rows;
  rules = rules_in id rows;
  files = values_in (codes "FILE") rows;
  list = list_in rows;
  form = form_in rows;
}

abbrev pub c_in : List Row → PlainC
c_in rows = record {
  scanner = flag_in (codes "c") rows;
  header = flag_in (codes "header") rows;
  prefix = first_of (codes "prefix") rows;
  include = first_of (codes "include") rows;
  direct = flag_in (codes "direct") rows;
}

-- the file of `-o`, if the text goes to one: `-` is the output
abbrev pub named_target : Text → Option Text
named_target name = if bytes_eq name (codes "-") then None else Some name

abbrev pub target_in : List Row → Option Text
target_in rows = option_and_then named_target (first_of (codes "target") rows)

-- a text that is printed
abbrev pub print_in : Text → List Row → PlainPrint
print_in id rows = record { rules = rules_in id rows; target = target_in rows; c = c_in rows }

-- the number of `--most`
abbrev pub most_in : List Row → ℕ
most_in rows = number_in (codes "most") most_told 20 rows

abbrev pub check_in : List Row → PlainCheck
check_in rows = record {
  rules = rules_in (codes "SPEC") rows;
  quiet = flag_in (codes "quiet") rows;
  warnings = values_in (codes "warnings") rows;
  most = most_in rows;
  json = flag_in (codes "json") rows;
  flex = flag_in (codes "flex") rows;
}

abbrev pub show_in : List Row → PlainShow
show_in rows = record { rules = rules_in (codes "RULES") rows; all = flag_in (codes "all") rows }

abbrev pub import_in : List Row → PlainImport
import_in rows = record {
  rules = rules_in (codes "FLEX") rows;
  target = target_in rows;
  actions = first_of (codes "actions") rows;
  prefix = first_of (codes "prefix") rows;
  lossy = flag_in (codes "lossy") rows;
}

-- the request of one of the further commands
abbrev pub further_of : Text × List Row → Option Asked
further_of p =
    if bytes_eq p.0 (codes "check") then Some (check (check_in p.1))
    else (if bytes_eq p.0 (codes "explain") then Some (explain (first_of (codes "WORD") p.1))
    else (if bytes_eq p.0 (codes "show") then Some (show (show_in p.1))
    else (if bytes_eq p.0 (codes "import") then Some (imports (import_in p.1)) else None)))

-- the request of a subcommand, by the rows of its arguments
abbrev pub asked_of : Text × List Row → Option Asked
asked_of p =
    if bytes_eq p.0 (codes "gen") then Some (gen (print_in (codes "SPEC") p.1))
    else (if bytes_eq p.0 (codes "up") then Some (up (print_in (codes "TABLES") p.1))
    else (if bytes_eq p.0 (codes "scan") then Some (scan (request_in (codes "TABLES") 4 p.1))
    else (if bytes_eq p.0 (codes "run") then Some (run (request_in (codes "SPEC") 0 p.1)) else further_of p)))

-- `clap` may answer the words by an error of this kind; the help and the version are two of the kinds
abbrev pub IsFault : List Text → ErrorKind → Type 0
IsFault words k = IsAmong k (fault_of lx_app words)

-- the kinds that aren't rejections: the help or the version was asked for
abbrev pub IsTold : ErrorKind → Type 0
IsTold k = (k ≡ ErrorKind.DisplayHelp) ⊎ (k ≡ ErrorKind.DisplayVersion)

-- it takes them
abbrev pub is_taken : List Text → Bool
is_taken words = is_empty (fault_of lx_app words)

-- the request of the words, of which the first is the program's name; none if they are rejected or ask for the help or the version
unfoldable pub asked_by : List Text → Option Asked
asked_by words = if nat_le (length words) 1 then Some stored
    else (if is_taken words then option_and_then asked_of (subcommand_of lx_app words) else None)

-- ---- the code's requests

abbrev pub plain_list : ListWords → PlainList
plain_list l = record { name = l.name.now; separator = l.separator }

abbrev pub plain_form : FormWords → PlainFormWords
plain_form f = record {
  first = f.first;
  names = f.names;
  only = option_map (λ word. word.now) f.only;
  text = f.text;
  format = option_map (λ word. word.now) f.format;
}

abbrev pub plain_order : ListRequest → PlainOrder
plain_order o = record {
  workers = o.workers;
  per_piece = o.per_piece;
  stream = o.stream;
  rules = o.rules.now;
  files = map (λ name. name.now) o.files.items;
  list = option_map plain_list o.list;
  form = plain_form o.form;
}

abbrev pub plain_c : CWords → PlainC
plain_c c = record {
  scanner = c.scanner;
  header = c.header;
  prefix = option_map (λ word. word.now) c.prefix;
  include = option_map (λ word. word.now) c.include;
  direct = c.direct;
}

abbrev pub plain_print : PrintWords → PlainPrint
plain_print p = record { rules = p.rules.now; target = option_map (λ name. name.now) p.target; c = plain_c p.c }

abbrev pub plain_check : CheckWords → PlainCheck
plain_check c = record {
  rules = c.rules.now;
  quiet = c.quiet;
  warnings = map (λ name. name.now) c.warnings.items;
  most = c.most;
  json = c.json;
  flex = c.flex;
}

abbrev pub plain_show : ShowWords → PlainShow
plain_show s = record { rules = s.rules.now; all = s.all }

abbrev pub plain_import : ImportWords → PlainImport
plain_import i = record {
  rules = i.rules.now;
  target = option_map (λ name. name.now) i.target;
  actions = option_map (λ name. name.now) i.actions;
  prefix = option_map (λ word. word.now) i.prefix;
  lossy = i.lossy;
}

-- the request of a parsed request; the help and the version are none
abbrev pub asked_as : Request → Option Asked
asked_as request.Stored = Some stored
asked_as (request.Told text) = None
asked_as (request.Run o) = Some (run (plain_order o))
asked_as (request.Scan o) = Some (scan (plain_order o))
asked_as (request.Gen words) = Some (gen (plain_print words))
asked_as (request.Up words) = Some (up (plain_print words))
asked_as (request.Check words) = Some (check (plain_check words))
asked_as (request.Explain word) = Some (explain (option_map (λ w. w.now) word))
asked_as (request.Show words) = Some (show (plain_show words))
asked_as (request.Import words) = Some (imports (plain_import words))

-- ---- the results for words that are no flags

-- the word begins with no hyphen
abbrev pub IsPlainWord : Text → Type 0
IsPlainWord word = slice_index word 0 ≢ 45

-- the words of a flag, if its number is given
abbrev pub number_words : Text → Option Text → List Text
number_words flag None = []
number_words flag (Some number) = flag ∷ number ∷ []

abbrev pub number_given : ℕ → Option Text → ℕ
number_given default None = default
number_given default (Some number) = digits_value 10 (without_leading_plus number)

abbrev pub IsNumber : ℕ → Option Text → Type 0
IsNumber most number = IfSome number (λ n. is_unsigned_in 1 most n ≡ true)

-- the words of `-b`, if it is given, and its number
abbrev pub items_words : Option Text → List Text
items_words number = number_words (codes "-b") number

abbrev pub items_given : Option Text → ℕ
items_given number = number_given 256 number

abbrev pub IsItems : Option Text → Type 0
IsItems number = IsNumber max_items number

-- the words of `-j`, if it is given, and its number
abbrev pub workers_words : Option Text → List Text
workers_words number = number_words (codes "-j") number

abbrev pub workers_given : ℕ → Option Text → ℕ
workers_given default number = number_given default number

abbrev pub IsWorkers : Option Text → Type 0
IsWorkers number = IsNumber max_workers number

-- a listing of only the files in the words, in the form without options
abbrev pub plain_listing : ℕ → ℕ → Text → List Text → PlainOrder
plain_listing workers per_piece rules files = record {
  workers = workers;
  per_piece = per_piece;
  stream = false;
  rules = rules;
  files = files;
  list = None;
  form = record { first = 0; names = false; only = None; text = true; format = None };
}

-- tables that go to the output
abbrev pub plain_text : Text → PlainPrint
plain_text rules = record { rules = rules; target = None; c = record { scanner = false; header = false; prefix = None; include = None; direct = false } }

-- Such words request what they say.
pub record PlainWordsAsk : Type 0 where
  pub gens : (program spec : Text) → IsPlainWord spec → asked_by (program ∷ codes "gen" ∷ spec ∷ []) ≡ Some (gen (plain_text spec))
  pub ups : (program tables : Text) → IsPlainWord tables → asked_by (program ∷ codes "up" ∷ tables ∷ []) ≡ Some (up (plain_text tables))
  pub runs : (program : Text) (workers number : Option Text) (spec file : Text) (files : List Text) → IsWorkers workers → IsItems number → All IsPlainWord (spec ∷ file ∷ files) → length files < usize_max
      → asked_by (program ∷ codes "run" ∷ (workers_words workers ++ (items_words number ++ spec ∷ file ∷ files))) ≡ Some (run (plain_listing (workers_given 0 workers) (items_given number) spec (file ∷ files)))
  pub scans : (program : Text) (workers number : Option Text) (tables file : Text) (files : List Text) → IsWorkers workers → IsItems number → All IsPlainWord (tables ∷ file ∷ files) → length files < usize_max
      → asked_by (program ∷ codes "scan" ∷ (workers_words workers ++ (items_words number ++ tables ∷ file ∷ files))) ≡ Some (scan (plain_listing (workers_given 4 workers) (items_given number) tables (file ∷ files)))
