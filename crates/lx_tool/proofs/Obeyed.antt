-- The arguments' request was carried out, or failed for a reason.
use Rattle.std.proofs.Common.{ℕ, zero, suc, ◌≡◌, ◌≢◌, ◌<◌, List, [], ◌∷◌, ◌++◌, Option, Some, None, All, Bor, Ok, Err, Result, IfOk, IfErr, inl, inr, length, arith, refl, sym, ◌∙◌, ap, ap₂, subst, true}
use Rattle.std.specs.Prelude.{◌⊎◌, Contains, IfSome, IsOk, IsSomeAnd, MatchOption, OnOk}
use Rattle.std.proofs.lemmas.List.{length-map}
use Rattle.std.specs.Io.KnownBytes.{Keeps, Appends}
use Rattle.std.proofs.lemmas.List.Elements.{All-cons, All-nil, All-from_recursion}
use Rattle.lx_tables.specs.Model.{Table}
use Rattle.lx_piece.specs.Plans.{PlainInput, max_files}
use Rattle.lx_tables.specs.Output.{Wrote}
use Rattle.lx_c.specs.Options.{Options, named}
use Rattle.lx_cli.specs.CommandLine.{Asked, PlainC, PlainCheck, PlainFormWords, PlainImport, PlainOrder, PlainPrint, PlainShow, stored, run, scan, gen, up, check, explain, show, imports}
use Rattle.lx_tool.specs.Commands.{AreRulesRefused, AreWordsRefused, HasDone, HasEnded, HasFailed, HasFailedOrStopped, HasObeyed, HasToldFailure, IsCutShort, IsFormRefused, IsPrinted, IsRefused, IsRefusedLater, IsStopped, IsTold, files_asked, inputs_asked, names_asked, stored_specification, stored_text}
use Rattle.lx_tool.specs.Checking.{IsChecked, IsReported, IsWarningFault}
use Rattle.lx_tool.specs.Explaining.{IsExplained, IsUnexplained}
use Rattle.lx_tool.specs.Given.{AreListed, IsNoTable, IsUnread}
use Rattle.lx_tool.specs.Importing.{AreImportWordsRefused, IsNotImported, IsUnplaced}
use Rattle.lx_tool.specs.Outputs.{IsRefusedFor}
use Rattle.lx_tool.specs.Naming.{IsListingRefused, IsWordsFault, input_uses}
use Rattle.lx_tool.specs.Planning.{AreBytes, ListsAsked, ListsByRules, ListsByRulesIn, ListsByTextIn}
use Rattle.lx_tool.specs.Showing.{HasManyStates, HasNoneShown, IsNotShown, IsShown}
use Rattle.lx_tool.specs.Sources.{texts_of, whole}
use Rattle.lx_tool.specs.Streaming.{HasStopped, HasStoppedFor}
use Rattle.lx_tool.specs.Statuses.{HasStatusOfCut, HidesNoMemory, WroteReport, report_in, status_of}
use Rattle.lx_tool.specs.Printing.{AreKindsRefused, AreScannerWordsRefused, FailsPrinting, IsScannerFault, IsWritten, PrintsSpecification, PrintsTables}
use Rattle.lx_tool.specs.Tabling.{HasNoTables}
use Rattle.lx_tool.proofs.StreamedFiles.{stops_as_well}
use Rattle.lx_tool.specs.declared.failure.CommandFault.{CommandFault}
use Rattle.lx_tool.specs.declared.failure.RequestFault.{RequestFault}
use Rattle.lx_tool.specs.declared.failure.RequestFault.TheVariants.{FlexLater, NoTargets, Outputs}
use Rattle.lx_tool.specs.declared.failure.OutputFault.{OutputFault}
use Rattle.lx_tool.specs.declared.failure.CommandFault.TheVariants.{Specification, Automaton, Tables, Unprintable, Words, TooManyFiles, InputTwice, Refused, NotRead, Output, Memory}

-- ---- the contents of a writer

pub keeps_itself : (written : Option (List ℕ)) → Keeps written written
keeps_itself None = tt
keeps_itself (Some bytes) = refl

appends_kept : (old mid new : Option (List ℕ)) (bytes : List ℕ) → Appends old mid bytes → Keeps mid new → Appends old new bytes
appends_kept None mid new bytes h k = tt
appends_kept (Some xs) None new bytes h k = absurd h
appends_kept (Some xs) (Some ys) None bytes h k = absurd k
appends_kept (Some xs) (Some ys) (Some zs) bytes h k = k ∙ h

kept_appends : (old mid new : Option (List ℕ)) (bytes : List ℕ) → Keeps old mid → Appends mid new bytes → Appends old new bytes
kept_appends None mid new bytes h k = tt
kept_appends (Some xs) None new bytes h k = absurd h
kept_appends (Some xs) (Some ys) None bytes h k = absurd k
kept_appends (Some xs) (Some ys) (Some zs) bytes h k = k ∙ ap (λ bs. bs ++ bytes) h

keeps_both : (old mid new : Option (List ℕ)) → Keeps old mid → Keeps mid new → Keeps old new
keeps_both None mid new h k = tt
keeps_both (Some xs) None new h k = absurd h
keeps_both (Some xs) (Some ys) None h k = absurd k
keeps_both (Some xs) (Some ys) (Some zs) h k = k ∙ h

wrote_kept : (old mid new : Option (List ℕ)) (text : List ℕ) → Wrote old mid text → Keeps mid new → Wrote old new text
wrote_kept old mid new text h k = record { appends = appends_kept old mid new text h.appends k }

module _ (old mid new : Option (List ℕ)) (kept : Keeps mid new) where
  rules_kept : (text : List ℕ) (inputs : List PlainInput) → ListsByRules text inputs old mid → ListsByRules text inputs old new
  rules_kept text inputs l = record { spec = l.spec; read = l.read; plan = l.plan; by_rules = l.by_rules; wrote = appends_kept old mid new _ l.wrote kept }

  rules_in_kept : (words : PlainFormWords) (text : List ℕ) (names : List (List ℕ)) (inputs : List PlainInput) → ListsByRulesIn words text names inputs old mid → ListsByRulesIn words text names inputs old new
  rules_in_kept words text names inputs l =
      record { spec = l.spec; read = l.read; plan = l.plan; by_rules = l.by_rules; of_spec = l.of_spec; form = l.form; asked = l.asked; wrote = appends_kept old mid new _ l.wrote kept }

  asked_kept : (words : PlainFormWords) (table : Table) (names : List (List ℕ)) (inputs : List PlainInput) → ListsAsked words table names inputs old mid → ListsAsked words table names inputs old new
  asked_kept words table names inputs l =
      record { form = l.form; asked = l.asked; listed = record { plan = l.listed.plan; by_tables = l.listed.by_tables; wrote = appends_kept old mid new _ l.listed.wrote kept } }

  text_in_kept : (words : PlainFormWords) (text : List ℕ) (names : List (List ℕ)) (inputs : List PlainInput) → ListsByTextIn words text names inputs old mid → ListsByTextIn words text names inputs old new
  text_in_kept words text names inputs l = record { table = l.table; is_table = l.is_table; of_text = l.of_text; listed = asked_kept words l.table names inputs l.listed }

  written_kept : (target : Option (List ℕ)) (text : List ℕ) → IsWritten target text old mid → IsWritten target text old new
  written_kept None text h = wrote_kept old mid new text h kept
  written_kept (Some name) text h = keeps_both old mid new h kept

  module _ {S : Type 0} (gives : S → List ℕ → PlainInput → S → Type 0) (before after : S) (cut : List (List ℕ)) where
    listed_kept : (P Q : List PlainInput → Type 0) → ((inputs : List PlainInput) → P inputs → Q inputs) → (names : List (List ℕ)) (between : S) → AreListed gives P names between after cut → AreListed gives Q names between after cut
    listed_kept P Q as_well names between l = record { inputs = l.inputs; read = l.read; listed = as_well l.inputs l.listed }

    printed_kept : (Prints : List ℕ → List ℕ → Type 0) (print : PlainPrint) → IsPrinted gives Prints print before after old mid → IsPrinted gives Prints print before after old new
    printed_kept Prints print h = record { text = h.text; given = h.given; printed = h.printed; prints = h.prints; written = written_kept print.target h.printed h.written }

    shown_kept : (s : PlainShow) → IsShown gives s before after old mid → IsShown gives s before after old new
    shown_kept s h = record { text = h.text; given = h.given; table = h.table; names = h.names; shown = h.shown; few = h.few; wrote = appends_kept old mid new _ h.wrote kept }

    -- the result is still there after the last flush
    pub obeyed_kept : (asked : Option Asked) → HasObeyed gives before after old mid cut asked → HasObeyed gives before after old new cut asked
    obeyed_kept None h = h
    obeyed_kept (Some stored) h = (rules_kept stored_specification _ h.0, h.1)
    obeyed_kept (Some (run order)) h = record {
      text = h.text;
      between = h.between;
      given = h.given;
      names = h.names;
      behind = h.behind;
      named = h.named;
      judged = h.judged;
      listed = listed_kept (λ inputs. ListsByRulesIn order.form h.text h.names inputs old mid) (λ inputs. ListsByRulesIn order.form h.text h.names inputs old new) (rules_in_kept order.form h.text h.names) h.names h.behind h.listed;
    }
    obeyed_kept (Some (scan order)) h = record {
      text = h.text;
      between = h.between;
      given = h.given;
      names = h.names;
      behind = h.behind;
      named = h.named;
      judged = h.judged;
      listed = listed_kept (λ inputs. ListsByTextIn order.form h.text h.names inputs old mid) (λ inputs. ListsByTextIn order.form h.text h.names inputs old new) (text_in_kept order.form h.text h.names) h.names h.behind h.listed;
    }
    obeyed_kept (Some (gen print)) h = (printed_kept (PrintsSpecification print.c) print h.0, h.1)
    obeyed_kept (Some (up print)) h = (printed_kept (PrintsTables print.c) print h.0, h.1)
    obeyed_kept (Some (check c)) h = (record { plain = h.0.plain; text = h.0.text; given = h.0.given; accepted = h.0.accepted; said = h.0.said; tells = h.0.tells; wrote = appends_kept old mid new _ h.0.wrote kept }, h.1)
    obeyed_kept (Some (explain word)) h = (record { said = h.0.said; wrote = appends_kept old mid new _ h.0.wrote kept; begins = h.0.begins }, h.1)
    obeyed_kept (Some (show s)) h = (shown_kept s h.0, h.1)
    obeyed_kept (Some (imports i)) h = (record { text = h.0.text; given = h.0.given; printed = h.0.printed; of_flex = h.0.of_flex; written = written_kept i.target h.0.printed h.0.written }, h.1)

  -- so is a listing that stopped
  stopped_kept : {S : Type 0} (gives : S → List ℕ → PlainInput → S → Type 0) (order : PlainOrder) (table : Table) (before : S) (failure : CommandFault) →
      HasStopped gives order table before old mid failure → HasStopped gives order table before old new failure
  stopped_kept gives order table before failure s = record {
    asked = s.asked;
    names = s.names;
    between = s.between;
    named = s.named;
    judged = s.judged;
    stopped = (
      s.stopped.0,
      s.stopped.1,
      stops_as_well gives (λ inputs. ListsAsked order.form table s.names inputs old mid) (λ inputs. ListsAsked order.form table s.names inputs old new) (asked_kept order.form table s.names) s.names s.between s.stopped.0.now s.stopped.2,
    );
  }

  listing_stopped_kept : {S : Type 0} (gives : S → List ℕ → PlainInput → S → Type 0) (before : S) (failure : CommandFault) (asked : Option Asked) →
      IsSomeAnd asked (IsStopped gives before old mid failure) → IsSomeAnd asked (IsStopped gives before old new failure)
  listing_stopped_kept gives before failure None h = h
  listing_stopped_kept gives before failure (Some stored) h = h
  listing_stopped_kept gives before failure (Some (run order)) h =
      record { text = h.text; between = h.between; given = h.given; table = h.table; tables = h.tables; holds = stopped_kept gives order h.table h.between failure h.holds }
  listing_stopped_kept gives before failure (Some (scan order)) h =
      record { text = h.text; between = h.between; given = h.given; table = h.table; tables = h.tables; holds = stopped_kept gives order h.table h.between failure h.holds }
  listing_stopped_kept gives before failure (Some (gen print)) h = h
  listing_stopped_kept gives before failure (Some (up print)) h = h
  listing_stopped_kept gives before failure (Some (check c)) h = h
  listing_stopped_kept gives before failure (Some (explain word)) h = h
  listing_stopped_kept gives before failure (Some (show s)) h = h
  listing_stopped_kept gives before failure (Some (imports i)) h = h

-- the cause for which it stopped has no report
stopped_without_report : {S : Type 0} (gives : S → List ℕ → PlainInput → S → Type 0) (names : List (List ℕ)) (between : S) (Lists : List PlainInput → Type 0) (failure : CommandFault) (mid new : Option (List ℕ)) →
    HasStoppedFor gives Lists names between failure → WroteReport failure mid new → Keeps mid new
stopped_without_report gives names between Lists failure mid new s wrote = subst (λ (f : CommandFault). WroteReport f mid new) s.1 wrote

listing_stopped_without_report : {S : Type 0} (gives : S → List ℕ → PlainInput → S → Type 0) (before : S) (failure : CommandFault) (old mid new : Option (List ℕ)) (asked : Option Asked) →
    IsSomeAnd asked (IsStopped gives before old mid failure) → WroteReport failure mid new → Keeps mid new
listing_stopped_without_report gives before failure old mid new None h wrote = absurd h
listing_stopped_without_report gives before failure old mid new (Some stored) h wrote = absurd h
listing_stopped_without_report gives before failure old mid new (Some (run order)) h wrote =
    let s = h.holds in stopped_without_report gives s.names s.between (λ inputs. ListsAsked order.form h.table s.names inputs old mid) failure mid new s.stopped wrote
listing_stopped_without_report gives before failure old mid new (Some (scan order)) h wrote =
    let s = h.holds in stopped_without_report gives s.names s.between (λ inputs. ListsAsked order.form h.table s.names inputs old mid) failure mid new s.stopped wrote
listing_stopped_without_report gives before failure old mid new (Some (gen print)) h wrote = absurd h
listing_stopped_without_report gives before failure old mid new (Some (up print)) h wrote = absurd h
listing_stopped_without_report gives before failure old mid new (Some (check c)) h wrote = absurd h
listing_stopped_without_report gives before failure old mid new (Some (explain word)) h wrote = absurd h
listing_stopped_without_report gives before failure old mid new (Some (show s)) h wrote = absurd h
listing_stopped_without_report gives before failure old mid new (Some (imports i)) h wrote = absurd h

either : (A B C D : Type 0) → (A → C) → (B → D) → A ⊎ B → C ⊎ D
either A B C D left right (inl a) = inl (left a)
either A B C D left right (inr b) = inr (right b)

pub failed_or_stopped : {S : Type 0} (gives : S → List ℕ → PlainInput → S → Type 0) (asked : Option Asked) (before : S) (old new : Option (List ℕ)) (failure : CommandFault) →
    HasFailed gives asked before old new failure → HasFailedOrStopped gives asked before old new failure
failed_or_stopped gives asked before old new failure h = λ low. inl (h low)

-- ---- refusals

pub no_tables_tells : (text : List ℕ) (failure : CommandFault) → HasNoTables text failure → HidesNoMemory failure
no_tables_tells text (Specification fault) h = h.0
no_tables_tells text (Automaton fault) h = h.known
no_tables_tells text (Tables fault) h = absurd h
no_tables_tells text (Unprintable fault) h = tt
no_tables_tells text (Words error) h = absurd h
no_tables_tells text TooManyFiles h = tt
no_tables_tells text InputTwice h = tt
no_tables_tells text (Refused fault) h = tt
no_tables_tells text (NotRead name) h = tt
no_tables_tells text Output h = tt
no_tables_tells text Memory h = tt

pub no_table_tells : (text : List ℕ) (failure : CommandFault) → IsNoTable text failure → HidesNoMemory failure
no_table_tells text (Specification fault) h = absurd h
no_table_tells text (Automaton fault) h = absurd h
no_table_tells text (Tables fault) h = λ e. let f = h.0 in cc
no_table_tells text (Unprintable fault) h = tt
no_table_tells text (Words error) h = absurd h
no_table_tells text TooManyFiles h = tt
no_table_tells text InputTwice h = tt
no_table_tells text (Refused fault) h = tt
no_table_tells text (NotRead name) h = tt
no_table_tells text Output h = tt
no_table_tells text Memory h = tt

-- a list of one name contains no other
only_one : (name other : List ℕ) → Contains (name ∷ []) other → name ≡ other
only_one name other (zero, within, is) = is
only_one name other (suc n, within, is) = absurd (omega (arith, within))

module _ {S : Type 0} (gives : S → List ℕ → PlainInput → S → Type 0) (before : S) (old new : Option (List ℕ)) where
  -- a specification or tables were rejected
  pub rules_refused : (asked : Asked) (Refuses : CommandFault → Type 0) → ((failure : CommandFault) → Refuses failure → AreRulesRefused gives before asked failure) →
      ((failure : CommandFault) → Refuses failure → HidesNoMemory failure) → Keeps old new →
      (Refuses TooManyFiles → ⊥) → (Refuses InputTwice → ⊥) → ((fault : _) → Refuses (Refused fault) → ⊥) → ((name : _) → Refuses (NotRead name) → ⊥) → ((error : _) → Refuses (Words error) → ⊥) →
      (failure : CommandFault) → Refuses failure → HasFailed gives (Some asked) before old new failure
  rules_refused asked Refuses refused tells kept few once listing known words (Specification fault) h = λ low. record { cause = refused (Specification fault) h; tells = tells (Specification fault) h; kept = kept }
  rules_refused asked Refuses refused tells kept few once listing known words (Automaton fault) h = λ low. record { cause = refused (Automaton fault) h; tells = tells (Automaton fault) h; kept = kept }
  rules_refused asked Refuses refused tells kept few once listing known words (Tables fault) h = λ low. record { cause = refused (Tables fault) h; tells = tells (Tables fault) h; kept = kept }
  rules_refused asked Refuses refused tells kept few once listing known words (Unprintable fault) h = λ low. record { cause = refused (Unprintable fault) h; tells = tells (Unprintable fault) h; kept = kept }
  rules_refused asked Refuses refused tells kept few once listing known words (Words error) h = absurd (words error h)
  rules_refused asked Refuses refused tells kept few once listing known words TooManyFiles h = absurd (few h)
  rules_refused asked Refuses refused tells kept few once listing known words InputTwice h = absurd (once h)
  rules_refused asked Refuses refused tells kept few once listing known words (Refused fault) h = absurd (listing fault h)
  rules_refused asked Refuses refused tells kept few once listing known words (NotRead name) h = absurd (known name h)
  rules_refused asked Refuses refused tells kept few once listing known words Output h = λ low. absurd (omega (arith, low))
  rules_refused asked Refuses refused tells kept few once listing known words Memory h = λ low. absurd (omega (arith, low))

  -- the arguments of a listing were rejected
  pub words_refused : (asked : Asked) (order : PlainOrder) → (max_files < length order.files → max_files < length (files_asked asked)) → (1 < input_uses order order.files → 1 < inputs_asked asked) →
      ((fault : RequestFault) → IsWordsFault order fault → IsFormRefused asked fault) → Keeps old new → (failure : CommandFault) → AreWordsRefused order failure → HasFailed gives (Some asked) before old new failure
  words_refused asked order many twice form kept failure (inl h) = rw h.0 (λ low. record { cause = inl (many h.1); tells = tt; kept = kept })
  words_refused asked order many twice form kept failure (inr (inl h)) = rw h.0 (λ low. record { cause = inl (twice h.1); tells = tt; kept = kept })
  words_refused asked order many twice form kept failure (inr (inr h)) = rw h.1 (λ low. record { cause = inl (form h.0 h.2); tells = tt; kept = kept })

  -- a listing was rejected once its tables were made
  later_refused : (asked : Asked) (order : PlainOrder) (table : Table) (between : S) → ((failure : CommandFault) → IsListingRefused gives order table between failure → IsRefusedLater gives before asked failure) →
      (failure : CommandFault) → (status_of failure < 4 → IsListingRefused gives order table between failure × HidesNoMemory failure × Keeps old new) → HasFailed gives (Some asked) before old new failure
  later_refused asked order table between later (Specification fault) h = λ low. absurd (h low).0
  later_refused asked order table between later (Automaton fault) h = λ low. absurd (h low).0
  later_refused asked order table between later (Tables fault) h = λ low. absurd (h low).0
  later_refused asked order table between later (Unprintable fault) h = λ low. absurd (h low).0
  later_refused asked order table between later (Words error) h = λ low. absurd (h low).0
  later_refused asked order table between later TooManyFiles h = λ low. record { cause = inr (later TooManyFiles (h low).0); tells = tt; kept = (h low).2 }
  later_refused asked order table between later InputTwice h = λ low. record { cause = inr (later InputTwice (h low).0); tells = tt; kept = (h low).2 }
  later_refused asked order table between later (Refused fault) h = λ low. record { cause = inr (later (Refused fault) (h low).0); tells = tt; kept = (h low).2 }
  later_refused asked order table between later (NotRead name) h = λ low. record { cause = inr (later (NotRead name) (h low).0); tells = tt; kept = (h low).2 }
  later_refused asked order table between later Output h = λ low. absurd (omega (arith, low))
  later_refused asked order table between later Memory h = λ low. absurd (omega (arith, low))

  -- or it stopped
  pub later_stopped : (asked : Asked) (order : PlainOrder) (table : Table) (between : S) → ((failure : CommandFault) → IsListingRefused gives order table between failure → IsRefusedLater gives before asked failure) →
      ((failure : CommandFault) → HasStopped gives order table between old new failure → IsStopped gives before old new failure asked) → (failure : CommandFault) →
      (status_of failure < 4 → (IsListingRefused gives order table between failure × HidesNoMemory failure × Keeps old new) ⊎ HasStopped gives order table between old new failure) → HasFailedOrStopped gives (Some asked) before old new failure
  later_stopped asked order table between later stopped failure h = λ low.
      either (IsListingRefused gives order table between failure × HidesNoMemory failure × Keeps old new) (HasStopped gives order table between old new failure)
      (IsRefused gives (Some asked) before old new failure) (IsStopped gives before old new failure asked)
      (λ r. later_refused asked order table between later failure (λ l. r) low) (stopped failure) (h low)

  -- a name among its arguments can't be read
  pub rules_unread : (asked : Asked) (name : List ℕ) → Contains (names_asked asked) name → Keeps old new → (failure : CommandFault) → IsUnread (name ∷ []) failure → HasFailed gives (Some asked) before old new failure
  rules_unread asked name among kept (Specification fault) h = absurd h
  rules_unread asked name among kept (Automaton fault) h = absurd h
  rules_unread asked name among kept (Tables fault) h = absurd h
  rules_unread asked name among kept (Unprintable fault) h = absurd h
  rules_unread asked name among kept (Words error) h = absurd h
  rules_unread asked name among kept TooManyFiles h = absurd h
  rules_unread asked name among kept InputTwice h = absurd h
  rules_unread asked name among kept (Refused fault) h = absurd h
  rules_unread asked name among kept (NotRead other) h = λ low. record { cause = inl (subst (Contains (names_asked asked)) (only_one name other.now h) among); tells = tt; kept = kept }
  rules_unread asked name among kept Output h = absurd h
  rules_unread asked name among kept Memory h = λ low. absurd (omega (arith, low))

  module _ (text : List ℕ) (between : S) where
    -- the text has no tables
    pub rules_no_tables : (asked : Asked) → ((failure : CommandFault) → HasNoTables text failure → AreRulesRefused gives before asked failure) → Keeps old new →
        (failure : CommandFault) → HasNoTables text failure → HasFailed gives (Some asked) before old new failure
    rules_no_tables asked refused kept =
        rules_refused asked (HasNoTables text) refused (no_tables_tells text) kept (λ r. absurd r) (λ r. absurd r) (λ fault r. absurd r) (λ name r. absurd r) (λ error r. absurd r)

    -- or it is no table's
    pub rules_no_table : (asked : Asked) → ((failure : CommandFault) → IsNoTable text failure → AreRulesRefused gives before asked failure) → Keeps old new →
        (failure : CommandFault) → IsNoTable text failure → HasFailed gives (Some asked) before old new failure
    rules_no_table asked refused kept =
        rules_refused asked (IsNoTable text) refused (no_table_tells text) kept (λ r. absurd r) (λ r. absurd r) (λ fault r. absurd r) (λ name r. absurd r) (λ error r. absurd r)

  -- the arguments for a scanner in C were rejected
  pub scanner_refused : (asked : Asked) (c : PlainC) → ((fault : RequestFault) → IsScannerFault c fault → IsFormRefused asked fault) → Keeps old new →
      (failure : CommandFault) → AreScannerWordsRefused c failure → HasFailed gives (Some asked) before old new failure
  scanner_refused asked c form kept failure (inl h) = rw h (λ low. absurd (omega (arith, low)))
  scanner_refused asked c form kept failure (inr h) = rw h.1 (λ low. record { cause = inl (form h.0 h.2); tells = tt; kept = kept })

  -- no file was made, or the kinds were rejected
  module _ (asked : Asked) (c : PlainC) (o : Options) (table : Table) (target : Option (List ℕ)) (form : target ≢ None → IsFormRefused asked NoTargets)
      (kinds : (failure : CommandFault) → AreKindsRefused c o table failure → AreRulesRefused gives before asked failure) where
    for_cause : (failure : CommandFault) → Keeps old new → ((failure ≡ Refused NoTargets) × (target ≢ None)) ⊎ AreKindsRefused c o table failure → IsRefused gives (Some asked) before old new failure
    for_cause failure kept (inl h) = rw h.0 (record { cause = inl (form h.1); tells = tt; kept = kept })
    for_cause failure kept (inr h) = rw h.answers (record { cause = subst (AreRulesRefused gives before asked) h.answers (kinds failure h); tells = tt; kept = kept })

    pub printing_refused : (failure : CommandFault) → (status_of failure < 4 → FailsPrinting c o table target old new failure) → HasFailed gives (Some asked) before old new failure
    printing_refused failure h = λ low. for_cause failure (h low).kept (h low).cause

  -- the text has nothing that can be shown
  pub show_refused : (s : PlainShow) (text : List ℕ) → ((failure : CommandFault) → IsNotShown s text failure → AreRulesRefused gives before (show s) failure) → Keeps old new →
      (failure : CommandFault) → HasNoneShown text failure → HasFailed gives (Some (show s)) before old new failure
  show_refused s text refused kept failure (inl h) =
      rules_refused (show s) (IsNoTable text) (λ f r. refused f (inl (inl (h.0, r)))) (no_table_tells text) kept (λ r. absurd r) (λ r. absurd r) (λ fault r. absurd r) (λ name r. absurd r) (λ error r. absurd r) failure h.1
  show_refused s text refused kept failure (inr h) =
      rules_refused (show s) (HasNoTables text) (λ f r. refused f (inl (inr (h.0, r)))) (no_tables_tells text) kept (λ r. absurd r) (λ r. absurd r) (λ fault r. absurd r) (λ name r. absurd r) (λ error r. absurd r) failure h.1

  -- or too much
  pub show_too_large : (s : PlainShow) (table : Table) → ((failure : CommandFault) → HasManyStates s.all table failure → AreRulesRefused gives before (show s) failure) → Keeps old new →
      (failure : CommandFault) → HasManyStates s.all table failure → HasFailed gives (Some (show s)) before old new failure
  show_too_large s table refused kept failure h = rw h.told (λ low. record { cause = subst (AreRulesRefused gives before (show s)) h.told (refused failure h); tells = tt; kept = kept })

  -- the text is rejected, as reported
  check_reported : (c : PlainCheck) (text : List ℕ) → ((failure : CommandFault) → IsReported c text failure → AreRulesRefused gives before (check c) failure) → Keeps old new →
      (failure : CommandFault) → IsReported c text failure → HasFailed gives (Some (check c)) before old new failure
  check_reported c text refused kept (Specification fault) h = λ low. let carried = h.carried in absurd cc
  check_reported c text refused kept (Automaton fault) h = λ low. let carried = h.carried in absurd cc
  check_reported c text refused kept (Tables fault) h = λ low. let carried = h.carried in absurd cc
  check_reported c text refused kept (Unprintable fault) h = λ low. record { cause = refused (Unprintable fault) h; tells = tt; kept = kept }
  check_reported c text refused kept (Words error) h = λ low. let carried = h.carried in absurd cc
  check_reported c text refused kept TooManyFiles h = λ low. let carried = h.carried in absurd cc
  check_reported c text refused kept InputTwice h = λ low. let carried = h.carried in absurd cc
  check_reported c text refused kept (Refused fault) h = λ low. let carried = h.carried in absurd cc
  check_reported c text refused kept (NotRead name) h = λ low. let carried = h.carried in absurd cc
  check_reported c text refused kept Output h = λ low. absurd (omega (arith, low))
  check_reported c text refused kept Memory h = λ low. absurd (omega (arith, low))

  pub check_refused : (c : PlainCheck) (text : List ℕ) → ((failure : CommandFault) → IsReported c text failure → AreRulesRefused gives before (check c) failure) → Keeps old new →
      (failure : CommandFault) → (failure ≡ Memory) ⊎ IsReported c text failure → HasFailed gives (Some (check c)) before old new failure
  check_refused c text refused kept failure (inl h) = rw h (λ low. absurd (omega (arith, low)))
  check_refused c text refused kept failure (inr h) = check_reported c text refused kept failure h

  -- or its arguments are
  pub warning_refused : (c : PlainCheck) → Keeps old new → (failure : CommandFault) → (fault : RequestFault) × (failure ≡ Refused fault) × IsWarningFault c.warnings fault → HasFailed gives (Some (check c)) before old new failure
  warning_refused c kept failure h = rw h.1 (λ low. record { cause = inl (inl h.2); tells = tt; kept = kept })

  pub flex_refused : (c : PlainCheck) → Keeps old new → (failure : CommandFault) → (failure ≡ Refused FlexLater) × (c.flex ≡ true) → HasFailed gives (Some (check c)) before old new failure
  flex_refused c kept failure h = rw h.0 (λ low. record { cause = inl (inr (refl, h.1)); tells = tt; kept = kept })

  -- the word is unknown
  pub explain_refused : (word : Option (List ℕ)) (failure : CommandFault) → (status_of failure < 4 → IsUnexplained word failure × Keeps old new) → HasFailed gives (Some (explain word)) before old new failure
  explain_refused word failure h = λ low. let known = (h low).0 in
      rw known.0 (record { cause = subst (IsUnexplained word) known.0 known; tells = tt; kept = (h low).1 })

  -- the flex specification wasn't imported
  pub import_refused : (i : PlainImport) → ((failure : CommandFault) → IsNotImported failure → AreRulesRefused gives before (imports i) failure) → Keeps old new →
      (failure : CommandFault) → (failure ≡ Memory) ⊎ IsNotImported failure → HasFailed gives (Some (imports i)) before old new failure
  import_refused i refused kept failure (inl h) = rw h (λ low. absurd (omega (arith, low)))
  import_refused i refused kept failure (inr h) = rw h (λ low. record { cause = subst (AreRulesRefused gives before (imports i)) h (refused failure h); tells = tt; kept = kept })

  -- or no file was made for it
  pub import_unplaced : (i : PlainImport) (target : Option (List ℕ)) → (target ≢ None → AreImportWordsRefused i NoTargets) → (failure : CommandFault) → (status_of failure < 4 → Keeps old new) →
      IsUnplaced target failure → HasFailed gives (Some (imports i)) before old new failure
  import_unplaced i target asked failure kept (inl h) = rw h (λ low. absurd (omega (arith, low)))
  import_unplaced i target asked failure kept (inr (inl h)) = rw h (λ low. absurd (omega (arith, low)))
  import_unplaced i target asked failure kept (inr (inr h)) = rw h.0 (λ low. record { cause = inl (asked h.1); tells = tt; kept = (rw h.0 at kept) low })

  pub import_unwritten : {V : Type 0} (i : PlainImport) (target : Option (List ℕ)) → (target ≢ None → AreImportWordsRefused i NoTargets) → (ended : Result V CommandFault) →
      IfErr ended (IsUnplaced target) → IfErr ended (λ failure. status_of failure < 4 → Keeps old new) → IfErr ended (HasFailed gives (Some (imports i)) before old new)
  import_unwritten i target asked (Ok v) h k = tt
  import_unwritten i target asked (Err failure) h k = import_unplaced i target asked failure k h

  -- a file for the output is the input, or another output
  pub outputs_refused : (asked : Asked) (Is : OutputFault → Type 0) → ((fault : OutputFault) → Is fault → IsFormRefused asked (Outputs fault)) → Keeps old new → (failure : CommandFault) → IsRefusedFor Is failure → HasFailed gives (Some asked) before old new failure
  outputs_refused asked Is form kept failure (inl h) = rw h (λ low. absurd (omega (arith, low)))
  outputs_refused asked Is form kept failure (inr h) = rw h.1 (λ low. record { cause = inl (form h.0 h.2); tells = tt; kept = kept })

  -- the stored specification was rejected
  pub stored_refused : (failure : CommandFault) → (status_of failure < 4 → HasNoTables stored_specification failure × Keeps old new) → HasFailed gives (Some stored) before old new failure
  stored_refused failure h = λ low. rules_refused stored (HasNoTables stored_specification) (λ f r. r) (no_tables_tells stored_specification) (h low).1 (λ r. absurd r) (λ r. absurd r) (λ fault r. absurd r) (λ name r. absurd r) (λ error r. absurd r) failure (h low).0 low

-- ---- scanners in C

pub named_as : (result o p : Options) (ns ms : List (List ℕ)) → result ≡ named o ns → o ≡ p → ns ≡ ms → result ≡ named p ms
named_as result o p ns ms is same names = is ∙ ap₂ named same names

-- ---- ends

-- all was listed, but some files were cut short
pub ended_cut : {S : Type 0} (gives : S → List ℕ → PlainInput → S → Type 0) (before after : S) (old new : Option (List ℕ)) (cut : List (List ℕ)) (asked : Option Asked) → cut ≢ [] →
    HasObeyed gives before after old new cut asked → IsCutShort gives asked before after old new
ended_cut gives before after old new cut None some h = absurd (some h)
ended_cut gives before after old new cut (Some asked) some h = record { cut = cut; some = some; done = h }

-- the outcome, once its report is on the output
module _ (old mid new : Option (List ℕ)) where
  kept_wrote : (report : Option (List ℕ)) → Keeps old mid → MatchOption report (Keeps mid new) (λ bytes. Appends mid new bytes) → MatchOption report (Keeps old new) (λ bytes. Appends old new bytes)
  kept_wrote None h k = keeps_both old mid new h k
  kept_wrote (Some bytes) h k = kept_appends old mid new bytes h k

  pub said_ok : {V : Type 0} (Holds : V → Option (List ℕ) → Type 0) (ended said : Result V CommandFault) → IfOk ended (λ v. Holds v mid) → IfOk said (λ v. (ended ≡ Ok v) × (new ≡ mid)) → IfOk said (λ v. Holds v new)
  said_ok Holds ended (Ok v) h k = let held : Holds v mid = rw k.0 at h in subst (λ n. Holds v n) (sym k.1) held
  said_ok Holds ended (Err failure) h k = tt

  pub said_err : {S V : Type 0} (gives : S → List ℕ → PlainInput → S → Type 0) (asked : Option Asked) (before : S) (ended said : Result V CommandFault) → IfErr ended (HasFailedOrStopped gives asked before old mid) →
      IfErr said (λ failure. status_of failure < 4 → (ended ≡ Err failure) × WroteReport failure mid new) → IfErr said (HasToldFailure gives asked before old new)
  said_err gives asked before ended (Ok v) h k = tt
  said_err gives asked before ended (Err failure) h k = λ low.
      let wrote = k low in
      let failed : HasFailedOrStopped gives asked before old mid failure = rw wrote.0 at h in
      either (IsRefused gives asked before old mid failure) (IsSomeAnd asked (IsStopped gives before old mid failure)) (IsTold gives asked before old new failure) (IsSomeAnd asked (IsStopped gives before old new failure))
      (λ refused. record { cause = refused.cause; tells = refused.tells; wrote = kept_wrote (report_in failure) refused.kept wrote.1 })
      (λ stopped. listing_stopped_kept old mid new (listing_stopped_without_report gives before failure old mid new asked stopped wrote.1) gives before failure asked stopped) (failed low)

-- the contents of the output remain when they are flushed
module _ (old mid new : Option (List ℕ)) (kept : Keeps mid new) where
  report_kept : (report : Option (List ℕ)) → MatchOption report (Keeps old mid) (λ bytes. Appends old mid bytes) → MatchOption report (Keeps old new) (λ bytes. Appends old new bytes)
  report_kept None h = keeps_both old mid new h kept
  report_kept (Some bytes) h = appends_kept old mid new bytes h kept

  module _ {S V : Type 0} (gives : S → List ℕ → PlainInput → S → Type 0) (before after : S) (asked : Option Asked) where
    pub sent_ok : (A : Type 0) (names : V → List (List ℕ)) (ended sent : Result V CommandFault) → IfOk ended (λ cut. HasObeyed gives before after old mid (names cut) asked) →
        IfOk sent (λ cut. (ended ≡ Ok cut) × A) → IfOk sent (λ cut. HasObeyed gives before after old new (names cut) asked)
    sent_ok A names ended (Ok cut) h k = let held : HasObeyed gives before after old mid (names cut) asked = rw k.0 at h in obeyed_kept old mid new kept gives before after (names cut) asked held
    sent_ok A names ended (Err failure) h k = tt

    pub sent_err : (ended sent : Result V CommandFault) → IfErr ended (HasToldFailure gives asked before old mid) → IfErr sent (λ failure. status_of failure < 4 → ended ≡ Err failure) →
        IfErr sent (HasToldFailure gives asked before old new)
    sent_err ended (Ok cut) h k = tt
    sent_err ended (Err failure) h k = λ low.
        let told : HasToldFailure gives asked before old mid failure = rw (k low) at h in
        either (IsTold gives asked before old mid failure) (IsSomeAnd asked (IsStopped gives before old mid failure)) (IsTold gives asked before old new failure) (IsSomeAnd asked (IsStopped gives before old new failure))
        (λ t. record { cause = t.cause; tells = t.tells; wrote = report_kept (report_in failure) t.wrote }) (listing_stopped_kept old mid new kept gives before failure asked) (told low)

pub sent_as_well : {V : Type 0} (A P : Type 0) (ended sent : Result V CommandFault) → IfOk ended (λ cut. P) → IfOk sent (λ cut. (ended ≡ Ok cut) × A) → IfOk sent (λ cut. P)
sent_as_well A P ended (Ok cut) h k = rw k.0 at h
sent_as_well A P ended (Err failure) h k = tt

-- after success all was flushed
pub sent_on : {V U E : Type 0} (P : Type 0) (ended sent : Result V CommandFault) (answer : Result U E) → IfOk sent (λ cut. (ended ≡ Ok cut) × IsOk answer) → OnOk answer P → IfOk sent (λ cut. P)
sent_on P ended (Ok cut) (Ok u) k h = h
sent_on P ended (Ok cut) (Err e) k h = absurd (let is_ok = k.1 in cc)
sent_on P ended (Err failure) answer k h = tt

-- the facts at an exit status from 1 to 3
pub has_ended : {S V : Type 0} (gives : S → List ℕ → PlainInput → S → Type 0) (asked : Option Asked) (before after : S) (old new : Option (List ℕ)) (items : V → List (Bor (List ℕ))) (ended : Result V CommandFault) (status : ℕ) →
    IfOk ended (λ cut. HasObeyed gives before after old new (texts_of (items cut)) asked) → IfErr ended (HasToldFailure gives asked before old new) →
    IfOk ended (λ cut. HasStatusOfCut status (items cut)) → IfErr ended (λ failure. status ≡ status_of failure) → 0 < status → status < 4 → HasEnded gives asked before after old new status
has_ended gives asked before after old new items (Ok cut) status obeyed failed told other some few =
    let names : List (List ℕ) = texts_of (items cut) in
    let same = length-map (items cut) (λ (name : Bor (List ℕ)). name.now) in
    let none = told.none in
    let more = told.some in
    let is : status ≡ 3 = grind arith in
    inl (is, ended_cut gives before after old new names asked (λ e. let nobody = ap length e in absurd (grind arith)) obeyed)
has_ended gives asked before after old new items (Err failure) status obeyed failed told other some few = inr (failure, other, failed (omega (arith, few, other)))

pub some_status : (failure : CommandFault) → 0 < status_of failure
some_status (Specification fault) = omega arith
some_status (Automaton fault) = omega arith
some_status (Tables fault) = omega arith
some_status (Unprintable fault) = omega arith
some_status (Words error) = omega arith
some_status TooManyFiles = omega arith
some_status InputTwice = omega arith
some_status (Refused fault) = omega arith
some_status (NotRead name) = omega arith
some_status Output = omega arith
some_status Memory = omega arith

none_cut : {X : Type 0} (status : ℕ) (cut : List X) → HasStatusOfCut status cut → status ≡ 0 → cut ≡ []
none_cut status [] told is = refl
none_cut status (x ∷ xs) told is = let three = told.some (omega arith) in absurd (omega (arith, is, three))

-- the facts at exit status 0
pub has_done : {S V : Type 0} (gives : S → List ℕ → PlainInput → S → Type 0) (asked : Option Asked) (before after : S) (old new : Option (List ℕ)) (items : V → List (Bor (List ℕ))) (ended : Result V CommandFault) (status : ℕ) →
    IfOk ended (λ cut. HasObeyed gives before after old new (texts_of (items cut)) asked) →
    IfOk ended (λ cut. HasStatusOfCut status (items cut)) → IfErr ended (λ failure. status ≡ status_of failure) → status ≡ 0 → IfSome asked (HasDone gives before after old new [])
has_done gives None before after old new items ended status obeyed told other none = tt
has_done gives (Some asked) before after old new items (Ok cut) status obeyed told other none =
    subst (λ (names : List (List ℕ)). HasDone gives before after old new names asked) (ap texts_of (none_cut status (items cut) told none)) obeyed
has_done gives (Some asked) before after old new items (Err failure) status obeyed told other none = let some = some_status failure in absurd (omega (arith, some, other, none))

-- the stored text is one of bytes
pub stored_bytes : AreBytes (whole stored_text ∷ [])
stored_bytes = All-cons (λ (input : PlainInput). All (λ b. b < 256) input.bytes) (whole stored_text) []
    (All-from_recursion (λ b. b < 256) stored_text (omega arith, (omega arith, (omega arith, (omega arith, (omega arith, (omega arith, tt)))))))
    (All-nil (λ (input : PlainInput). All (λ b. b < 256) input.bytes))
