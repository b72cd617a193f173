-- The requests of `run` and `scan` if their arguments begin with no hyphen, except for those of `-b` and `-j`.
use Rattle.std.proofs.Common.{◌≡◌, ◌∙◌, ◌<◌, ◌++◌, ◌^◌, Bool, true, false, refl, subst, ap, ap₂, arith, codes, List, [], ◌∷◌, length, slice_index, Option, Some, None, IfSome, pos, All}
use Rattle.std.proofs.lemmas.Bool.{le-leb, le-ltb, lt-ltb, ne_eqb}
use Rattle.std.proofs.lemmas.List.{append-nil, append_assoc}
use Rattle.std.proofs.lemmas.List.Elements.{All-drop}
use Rattle.clap.proofs.OnLiterals.{clap_on_literals}
use Rattle.clap.proofs.ValueTestLemmas.{accepts-Accepts}
use Rattle.std.specs.Char.{digit_value}
use Rattle.std.specs.Prelude.{fold, ℕ}
use Rattle.std.specs.Str.Parse.{IsNumeral, digits_value, without_leading_plus}
use Rattle.clap.proofs.WalkLemmas.{both}
use Rattle.clap.specs.Faults.{check_fault, defaults_fault, positional_fault, settle_fault, turn_fault}
use Rattle.clap.specs.Kinds.{or_else, values_kinds}
use Rattle.clap.specs.Lexer.{usize_max}
use Rattle.clap.specs.Simple.{filled, help_rule, new_shape}
use Rattle.clap.specs.ValueTests.{accepts, is_numeral, is_unsigned_in}
use Rattle.clap.specs.Walk.{Held, Walk, arg_by_index, finished, idle, nothing_held, option, positional, settled, to_positional, walk_from, walked, with_default}
use Rattle.clap.specs.Words.{Row, Rule, Shape, Text}
use Rattle.clap.specs.declared.builder.action.ArgAction.TheVariants.{Set}
use Rattle.clap.specs.declared.builder.value_parser.Reading.TheVariants as reading
use Rattle.clap.specs.declared.builder.value_parser.ValueParser.TheVariants as parser
use Rattle.clap.specs.declared.parser.matches.ValueSource.TheVariants.{CommandLine, DefaultValue}
use Rattle.lx_cli.proofs.PlainWords.{Enters, Steps, asks, ending, met_plain, no_fault, no_hyphen, no_words, standing, step_then, value_goes, value_passes}
use Rattle.lx_cli.specs.CommandLine.{Asked, IsItems, IsPlainWord, IsWorkers, PlainOrder, asked_by, asked_of, files_rule, first_rule, flag_rule, items_given, items_rule, items_words, list_rule, lx_app, option_rule, plain_listing, rules_rule, run, scan, workers_given, workers_rule, workers_words, zeros_rule}

-- ---- the two subcommands, as they are built

-- `run` or `scan`, with the number of `-j`, if it is given
pub data Listing : Type 0 where
  of_run : Option Text → Listing
  of_scan : Option Text → Listing

abbrev name : Listing → Text
name (of_run w) = codes "run"
name (of_scan w) = codes "scan"

abbrev id : Listing → Text
id (of_run w) = codes "SPEC"
id (of_scan w) = codes "TABLES"

abbrev one_value : Rule → Rule
one_value a = record a { action = Some Set; range = Some (record { start_inclusive = 1; end_inclusive = 1 }) }

abbrev rules : Listing → Rule
rules b = record (one_value (rules_rule (id b))) { index = Some 1; parser = Some parser.String }

abbrev files : Rule
files = record files_rule { index = Some 2; parser = Some parser.String }

abbrev help : Rule
help = record help_rule { range = Some (record { start_inclusive = 0; end_inclusive = 0 }); parser = Some parser.String }

-- the options that aren't given in such arguments
abbrev further_rules : List Rule
further_rules =
    filled (flag_rule (codes "stream")) ∷ filled (flag_rule (codes "names")) ∷ filled (option_rule (codes "only") (codes "only")) ∷ filled (flag_rule (codes "no-text"))
    ∷ filled (option_rule (codes "format") (codes "format")) ∷ filled first_rule ∷ filled list_rule ∷ filled zeros_rule ∷ []

abbrev listing : Listing → Shape
listing b = record (new_shape (name b)) {
  rules = one_value workers_rule ∷ one_value items_rule ∷ (further_rules ++ rules b ∷ files ∷ help ∷ []);
  disable_help_subcommand = true;
  is_built = true;
}

enters : (b : Listing) → Enters (name b) (listing b)
unfolding lx_app walked
enters (of_run w) = record { passes = refl; goes = refl; found = refl }
enters (of_scan w) = record { passes = refl; goes = refl; found = refl }

-- ---- the numbers of `-b` and `-j`

begins_plain : (most : ℕ) (k : Text) → is_unsigned_in 1 most k ≡ true → IsPlainWord k
begins_plain most [] e = λ (h : 0 ≡ 45). absurd (omega arith)
begins_plain most (x ∷ xs) e = λ h.
    let a = accepts-Accepts false (parser.Unsigned 1 most) (x ∷ xs) e in
    let numeral : IsNumeral 10 (45 ∷ xs) = rw h at a.0 in
    let digit : digit_value 45 < 10 = numeral.1.0 in
    absurd (omega arith)

-- a number from 1 to `most` passes as `clap` reads it
accepted : (most : ℕ) → most < 2 ^ 63 → (k : Text) → IsPlainWord k → is_unsigned_in 1 most k ≡ true → accepts false (parser.Signed (pos 1) (pos most)) k ≡ true
accepted most few k plain e =
    let a = accepts-Accepts false (parser.Unsigned 1 most) k e in
    let v = digits_value 10 (without_leading_plus k) in
    let numeral : is_numeral (without_leading_plus k) ≡ true = (both _ _ e).0 in
    rw (ne_eqb (slice_index k 0) 45 plain, numeral, lt-ltb v (2 ^ 63) (omega (arith, a.3)), le-leb 1 v a.2, le-leb v most a.3) refl

abbrev IsReady : ℕ → Text → Type 0
IsReady most k = IsPlainWord k × (accepts false (parser.Signed (pos 1) (pos most)) k ≡ true)

ready : (most : ℕ) → most < 2 ^ 63 → (k : Text) → is_unsigned_in 1 most k ≡ true → IsReady most k
ready most few k e = (begins_plain most k e, accepted most few k (begins_plain most k e) e)

abbrev number_row : Text → Text → Row
number_row id k = record { id = id; values = k ∷ []; count = None; source = Some CommandLine; reading = reading.WithoutMinus }

abbrev at_number : Text → Text → Held
at_number id k = record { rows = []; pending = Some (id, k ∷ []); skip = 0 }

-- the held values after the arguments of `-j`
abbrev held_first : Listing → Held
held_first (of_run None) = nothing_held
held_first (of_run (Some j)) = at_number (codes "workers") j
held_first (of_scan None) = nothing_held
held_first (of_scan (Some j)) = at_number (codes "workers") j

-- the rows once they are settled
abbrev rows_first : Listing → List Row
rows_first (of_run None) = []
rows_first (of_run (Some j)) = number_row (codes "workers") j ∷ []
rows_first (of_scan None) = []
rows_first (of_scan (Some j)) = number_row (codes "workers") j ∷ []

-- the same after the arguments of `-b`
abbrev held_before : Listing → Option Text → Held
held_before b None = held_first b
held_before b (Some k) = record (at_number (codes "items") k) { rows = rows_first b }

abbrev rows_before : Listing → Option Text → List Row
rows_before b None = rows_first b
rows_before b (Some k) = rows_first b ++ number_row (codes "items") k ∷ []

-- the numbers are ones that the flags take
abbrev AreGiven : Listing → Option Text → Type 0
AreGiven (of_run w) o = IsWorkers w × IsItems o
AreGiven (of_scan w) o = IsWorkers w × IsItems o

abbrev IsReadyFirst : Listing → Type 0
IsReadyFirst (of_run w) = IfSome w (IsReady 8)
IsReadyFirst (of_scan w) = IfSome w (IsReady 8)

abbrev AreReady : Listing → Option Text → Type 0
AreReady b o = IsReadyFirst b × IfSome o (IsReady 4096)

items_ready : (o : Option Text) → IsItems o → IfSome o (IsReady 4096)
items_ready None given = tt
items_ready (Some k) given = ready 4096 (omega arith) k given

workers_ready : (w : Option Text) → IsWorkers w → IfSome w (IsReady 8)
workers_ready None given = tt
workers_ready (Some j) given = ready 8 (omega arith) j given

all_ready : (b : Listing) (o : Option Text) → AreGiven b o → AreReady b o
all_ready (of_run w) o given = (workers_ready w given.0, items_ready o given.1)
all_ready (of_scan w) o given = (workers_ready w given.0, items_ready o given.1)

-- ---- the walk

abbrev row : Text → List Text → Row
row id values = record { id = id; values = values; count = None; source = Some CommandLine; reading = reading.AsWritten }

abbrev at_rules : Listing → Option Text → Text → Walk
at_rules b o r = standing (record { rows = rows_before b o; pending = Some (id b, r ∷ []); skip = 0 }) idle 2

abbrev at_files : Listing → Option Text → Text → List Text → Walk
at_files b o r fs = standing (record { rows = rows_before b o ++ row (id b) (r ∷ []) ∷ []; pending = Some (codes "FILE", fs); skip = 0 }) positional 2

rules_pass : (b : Listing) (o : Option Text) → AreReady b o → positional_fault (listing b).rules false (rules b) (held_before b o) ≡ []
rules_pass (of_run None) None ready = refl
rules_pass (of_run None) (Some k) ready = rw ready.1.1 refl
rules_pass (of_run (Some j)) None ready = rw ready.0.1 refl
rules_pass (of_run (Some j)) (Some k) ready = rw ready.1.1 refl
rules_pass (of_scan None) None ready = refl
rules_pass (of_scan None) (Some k) ready = rw ready.1.1 refl
rules_pass (of_scan (Some j)) None ready = rw ready.0.1 refl
rules_pass (of_scan (Some j)) (Some k) ready = rw ready.1.1 refl

rules_go : (b : Listing) (o : Option Text) (r : Text) → to_positional (listing b).rules (Some (rules b)) r (standing (held_before b o) idle 1) (held_before b o) ≡ at_rules b o r
rules_go (of_run None) None r = refl
rules_go (of_run None) (Some k) r = refl
rules_go (of_run (Some j)) None r = refl
rules_go (of_run (Some j)) (Some k) r = refl
rules_go (of_scan None) None r = refl
rules_go (of_scan None) (Some k) r = refl
rules_go (of_scan (Some j)) None r = refl
rules_go (of_scan (Some j)) (Some k) r = refl

first_passes : (b : Listing) (o : Option Text) (r : Text) → positional_fault (listing b).rules false files (at_rules b o r).held ≡ []
first_passes (of_run None) None r = refl
first_passes (of_run None) (Some k) r = refl
first_passes (of_run (Some j)) None r = refl
first_passes (of_run (Some j)) (Some k) r = refl
first_passes (of_scan None) None r = refl
first_passes (of_scan None) (Some k) r = refl
first_passes (of_scan (Some j)) None r = refl
first_passes (of_scan (Some j)) (Some k) r = refl

first_goes : (b : Listing) (o : Option Text) (r f : Text) → to_positional (listing b).rules (Some files) f (at_rules b o r) (at_rules b o r).held ≡ at_files b o r (f ∷ [])
first_goes (of_run None) None r f = refl
first_goes (of_run None) (Some k) r f = refl
first_goes (of_run (Some j)) None r f = refl
first_goes (of_run (Some j)) (Some k) r f = refl
first_goes (of_scan None) None r f = refl
first_goes (of_scan None) (Some k) r f = refl
first_goes (of_scan (Some j)) None r f = refl
first_goes (of_scan (Some j)) (Some k) r f = refl

more_passes : (b : Listing) (o : Option Text) (r : Text) (fs : List Text) → positional_fault (listing b).rules false files (at_files b o r fs).held ≡ []
more_passes (of_run w) o r fs = refl
more_passes (of_scan w) o r fs = refl

more_goes : (b : Listing) (o : Option Text) (r f : Text) (fs : List Text) → to_positional (listing b).rules (Some files) f (at_files b o r fs) (at_files b o r fs).held ≡ at_files b o r (fs ++ f ∷ [])
more_goes b o r f fs = refl

here_rules : (b : Listing) → arg_by_index (listing b).rules 1 ≡ Some (rules b)
here_rules (of_run w) = refl
here_rules (of_scan w) = refl

here_files : (b : Listing) → arg_by_index (listing b).rules 2 ≡ Some files
here_files (of_run w) = refl
here_files (of_scan w) = refl

more_steps : (b : Listing) (o : Option Text) (r : Text) (fs gs : List Text) → All IsPlainWord gs → Steps (listing b) [] (at_files b o r fs) gs (at_files b o r (fs ++ gs))
more_steps b o r fs [] plain = rw append-nil (no_words _ _ _)
more_steps b o r fs (g ∷ gs) plain =
    let h = (at_files b o r fs).held in
    let here : IsPlainWord g = plain 0 [] (omega arith) in
    let rest = more_steps b o r (fs ++ g ∷ []) gs (All-drop IsPlainWord 1 (g ∷ gs) plain) in
    step_then _ _ _ _ _ g gs (value_passes (listing b) g h positional 2 here refl files refl (here_files b) (more_passes b o r fs))
    (value_goes (listing b) g h positional 2 here refl files refl (here_files b) ∙ more_goes b o r g fs)
    (subst (λ (xs : List Text). Steps (listing b) [] (at_files b o r (fs ++ g ∷ [])) gs (at_files b o r xs)) (append_assoc fs (g ∷ []) gs) rest)

name_steps : (b : Listing) (o : Option Text) (r f : Text) (fs : List Text) → AreReady b o → IsPlainWord r → IsPlainWord f → All IsPlainWord fs
    → Steps (listing b) [] (standing (held_before b o) idle 1) (r ∷ f ∷ fs) (at_files b o r (f ∷ fs))
name_steps b o r f fs ready plain first more =
    let before = held_before b o in
    let h = (at_rules b o r).held in
    step_then _ _ _ _ _ r _ (value_passes (listing b) r before idle 1 plain refl (rules b) refl (here_rules b) (rules_pass b o ready))
    (value_goes (listing b) r before idle 1 plain refl (rules b) refl (here_rules b) ∙ rules_go b o r)
    (step_then _ _ _ _ _ f fs (value_passes (listing b) f h idle 2 first refl files refl (here_files b) (first_passes b o r))
    (value_goes (listing b) f h idle 2 first refl files refl (here_files b) ∙ first_goes b o r f)
    (more_steps b o r (f ∷ []) fs more))

-- `-b` waits for its value
at_dash : Listing → Walk
at_dash b = standing (record { rows = rows_first b; pending = Some (codes "items", []); skip = 0 }) (option (codes "items")) 1

dash_passes : (b : Listing) → IsReadyFirst b → turn_fault (listing b) [] (standing (held_first b) idle 1) (codes "-b") ≡ []
unfolding clap_on_literals
dash_passes (of_run None) ready = refl
dash_passes (of_run (Some j)) ready = rw ready.1 refl
dash_passes (of_scan None) ready = refl
dash_passes (of_scan (Some j)) ready = rw ready.1 refl

dash_goes : (b : Listing) → walked (listing b).rules [] (standing (held_first b) idle 1) (codes "-b") ≡ at_dash b
unfolding clap_on_literals at_dash
dash_goes (of_run None) = refl
dash_goes (of_run (Some j)) = refl
dash_goes (of_scan None) = refl
dash_goes (of_scan (Some j)) = refl

-- and gets it
number_passes : (b : Listing) (k : Text) → IsPlainWord k → turn_fault (listing b) [] (at_dash b) k ≡ []
unfolding at_dash
number_passes b k plain =
    let h = (at_dash b).held in
    let waiting = option (codes "items") in
    rw (no_fault (listing b) k h waiting 1 plain refl, met_plain (listing b) k h waiting 1 plain refl) refl

number_goes : (b : Listing) (k : Text) → IsPlainWord k → walked (listing b).rules [] (at_dash b) k ≡ standing (held_before b (Some k)) idle 1
unfolding at_dash walked
number_goes (of_run w) k plain =
    let h = (at_dash (of_run w)).held in
    let waiting = option (codes "items") in
    rw (met_plain (listing (of_run w)) k h waiting 1 plain refl) refl
number_goes (of_scan w) k plain =
    let h = (at_dash (of_scan w)).held in
    let waiting = option (codes "items") in
    rw (met_plain (listing (of_scan w)) k h waiting 1 plain refl) refl

-- so does `-j`
at_workers : Walk
at_workers = standing (record { rows = []; pending = Some (codes "workers", []); skip = 0 }) (option (codes "workers")) 1

workers_dash_passes : (b : Listing) → turn_fault (listing b) [] (walk_from nothing_held) (codes "-j") ≡ []
unfolding clap_on_literals
workers_dash_passes (of_run w) = refl
workers_dash_passes (of_scan w) = refl

workers_dash_goes : (b : Listing) → walked (listing b).rules [] (walk_from nothing_held) (codes "-j") ≡ at_workers
unfolding clap_on_literals at_workers
workers_dash_goes (of_run w) = refl
workers_dash_goes (of_scan w) = refl

workers_pass : (b : Listing) (j : Text) → IsPlainWord j → turn_fault (listing b) [] at_workers j ≡ []
unfolding at_workers
workers_pass b j plain =
    let h = at_workers.held in
    let waiting = option (codes "workers") in
    rw (no_fault (listing b) j h waiting 1 plain refl, met_plain (listing b) j h waiting 1 plain refl) refl

workers_go : (b : Listing) (j : Text) → IsPlainWord j → walked (listing b).rules [] at_workers j ≡ standing (at_number (codes "workers") j) idle 1
unfolding at_workers walked
workers_go (of_run w) j plain =
    let h = at_workers.held in
    let waiting = option (codes "workers") in
    rw (met_plain (listing (of_run w)) j h waiting 1 plain refl) refl
workers_go (of_scan w) j plain =
    let h = at_workers.held in
    let waiting = option (codes "workers") in
    rw (met_plain (listing (of_scan w)) j h waiting 1 plain refl) refl

items_steps : (b : Listing) (o : Option Text) (r f : Text) (fs : List Text) → AreReady b o → IsPlainWord r → IsPlainWord f → All IsPlainWord fs
    → Steps (listing b) [] (standing (held_first b) idle 1) (items_words o ++ r ∷ f ∷ fs) (at_files b o r (f ∷ fs))
items_steps b None r f fs ready plain first more = name_steps b None r f fs ready plain first more
items_steps b (Some k) r f fs ready plain first more =
    step_then _ _ _ _ _ (codes "-b") _ (dash_passes b ready.0) (dash_goes b)
    (step_then _ _ _ _ _ k _ (number_passes b k ready.1.0) (number_goes b k ready.1.0)
    (name_steps b (Some k) r f fs ready plain first more))

-- the arguments of `-j`
abbrev first_words : Listing → List Text
first_words (of_run w) = workers_words w
first_words (of_scan w) = workers_words w

all_steps : (b : Listing) (o : Option Text) (r f : Text) (fs : List Text) → AreReady b o → IsPlainWord r → IsPlainWord f → All IsPlainWord fs
    → Steps (listing b) [] (walk_from nothing_held) (first_words b ++ (items_words o ++ r ∷ f ∷ fs)) (at_files b o r (f ∷ fs))
all_steps (of_run None) o r f fs ready plain first more = items_steps (of_run None) o r f fs ready plain first more
all_steps (of_run (Some j)) o r f fs ready plain first more =
    step_then _ _ _ _ _ (codes "-j") _ (workers_dash_passes (of_run (Some j))) (workers_dash_goes (of_run (Some j)))
    (step_then _ _ _ _ _ j _ (workers_pass (of_run (Some j)) j ready.0.0) (workers_go (of_run (Some j)) j ready.0.0)
    (items_steps (of_run (Some j)) o r f fs ready plain first more))
all_steps (of_scan None) o r f fs ready plain first more = items_steps (of_scan None) o r f fs ready plain first more
all_steps (of_scan (Some j)) o r f fs ready plain first more =
    step_then _ _ _ _ _ (codes "-j") _ (workers_dash_passes (of_scan (Some j))) (workers_dash_goes (of_scan (Some j)))
    (step_then _ _ _ _ _ j _ (workers_pass (of_scan (Some j)) j ready.0.0) (workers_go (of_scan (Some j)) j ready.0.0)
    (items_steps (of_scan (Some j)) o r f fs ready plain first more))

-- ---- the end of the arguments

strings : (ignore_case : Bool) (vs : List Text) → values_kinds ignore_case parser.String vs ≡ []
strings ignore_case [] = refl
strings ignore_case (v ∷ vs) = strings ignore_case vs

files_pass : (b : Listing) (o : Option Text) (r f : Text) (fs : List Text) → length fs < usize_max → settle_fault (listing b).rules false (at_files b o r (f ∷ fs)).held ≡ []
files_pass (of_run w) o r f fs few = rw (ne_eqb (length (f ∷ fs)) 0 (λ e. omega arith), le-ltb (length (f ∷ fs)) 1 (omega arith), le-ltb usize_max (length (f ∷ fs)) (omega arith)) (strings false (f ∷ fs))
files_pass (of_scan w) o r f fs few = rw (ne_eqb (length (f ∷ fs)) 0 (λ e. omega arith), le-ltb (length (f ∷ fs)) 1 (omega arith), le-ltb usize_max (length (f ∷ fs)) (omega arith)) (strings false (f ∷ fs))

abbrev settled_rows : Listing → Option Text → Text → List Text → List Row
settled_rows b o r fs = rows_before b o ++ row (id b) (r ∷ []) ∷ row (codes "FILE") fs ∷ []

settles : (b : Listing) (o : Option Text) (r f : Text) (fs : List Text) → (settled (listing b).rules (at_files b o r (f ∷ fs)).held).rows ≡ settled_rows b o r (f ∷ fs)
settles (of_run None) None r f fs = refl
settles (of_run None) (Some k) r f fs = refl
settles (of_run (Some j)) None r f fs = refl
settles (of_run (Some j)) (Some k) r f fs = refl
settles (of_scan None) None r f fs = refl
settles (of_scan None) (Some k) r f fs = refl
settles (of_scan (Some j)) None r f fs = refl
settles (of_scan (Some j)) (Some k) r f fs = refl

defaults_pass : (b : Listing) (o : Option Text) (r : Text) (fs : List Text) → defaults_fault (settled_rows b o r fs) (listing b).rules ≡ []
unfolding defaults_fault
defaults_pass (of_run None) None r fs = refl
defaults_pass (of_run None) (Some k) r fs = refl
defaults_pass (of_run (Some j)) None r fs = refl
defaults_pass (of_run (Some j)) (Some k) r fs = refl
defaults_pass (of_scan None) None r fs = refl
defaults_pass (of_scan None) (Some k) r fs = refl
defaults_pass (of_scan (Some j)) None r fs = refl
defaults_pass (of_scan (Some j)) (Some k) r fs = refl

-- the rows of the flags that aren't given
abbrev default_row : Text → Text → Row
default_row id k = record { id = id; values = k ∷ []; count = None; source = Some DefaultValue; reading = reading.WithoutMinus }

abbrev items_default : Option Text → List Row
items_default None = default_row (codes "items") (codes "256") ∷ []
items_default (Some k) = []

-- the rows of the options; each flag has the word `false`
abbrev flag_row : Text → Row
flag_row id = record (default_row id (codes "false")) { reading = reading.AsWritten }

abbrev further_defaults : List Row
further_defaults = flag_row (codes "stream") ∷ flag_row (codes "names") ∷ flag_row (codes "no-text") ∷ default_row (codes "first") (codes "0") ∷ flag_row (codes "zeros") ∷ []

-- the rows with those at the end
abbrev end_rows : Listing → Option Text → Text → List Text → List Row
end_rows b o r fs = settled_rows b o r fs ++ (items_default o ++ further_defaults)

finishes : (b : Listing) (o : Option Text) (r : Text) (fs : List Text) → fold with_default (settled_rows b o r fs) (listing b).rules ≡ end_rows b o r fs
finishes (of_run None) None r fs = refl
finishes (of_run None) (Some k) r fs = refl
finishes (of_run (Some j)) None r fs = refl
finishes (of_run (Some j)) (Some k) r fs = refl
finishes (of_scan None) None r fs = refl
finishes (of_scan None) (Some k) r fs = refl
finishes (of_scan (Some j)) None r fs = refl
finishes (of_scan (Some j)) (Some k) r fs = refl

checks : (b : Listing) (o : Option Text) (r : Text) (fs : List Text) → check_fault (listing b) (end_rows b o r fs) false ≡ []
checks (of_run None) None r fs = refl
checks (of_run None) (Some k) r fs = refl
checks (of_run (Some j)) None r fs = refl
checks (of_run (Some j)) (Some k) r fs = refl
checks (of_scan None) None r fs = refl
checks (of_scan None) (Some k) r fs = refl
checks (of_scan (Some j)) None r fs = refl
checks (of_scan (Some j)) (Some k) r fs = refl

finished_rows : (b : Listing) (o : Option Text) (r f : Text) (fs : List Text) → finished (listing b).rules (at_files b o r (f ∷ fs)).held ≡ end_rows b o r (f ∷ fs)
finished_rows b o r f fs = ap (λ (rows : List Row). fold with_default rows (listing b).rules) (settles b o r f fs) ∙ finishes b o r (f ∷ fs)

ends_well : (b : Listing) (o : Option Text) (r f : Text) (fs : List Text) → length fs < usize_max → ending (listing b) (at_files b o r (f ∷ fs)).held false ≡ []
ends_well b o r f fs few =
    let defaults : defaults_fault (settled (listing b).rules (at_files b o r (f ∷ fs)).held).rows (listing b).rules ≡ [] =
    ap (λ (rows : List Row). defaults_fault rows (listing b).rules) (settles b o r f fs) ∙ defaults_pass b o r (f ∷ fs) in
    let check : check_fault (listing b) (finished (listing b).rules (at_files b o r (f ∷ fs)).held) false ≡ [] =
    ap (λ (rows : List Row). check_fault (listing b) rows false) (finished_rows b o r f fs) ∙ checks b o r (f ∷ fs) in
    ap₂ or_else (files_pass b o r f fs few) (ap₂ or_else defaults check)

-- ---- the request

-- the number of workers
abbrev workers_of : Listing → ℕ
workers_of (of_run w) = workers_given 0 w
workers_of (of_scan w) = workers_given 4 w

abbrev ask : Listing → PlainOrder → Asked
ask (of_run w) = run
ask (of_scan w) = scan

asks_order : (b : Listing) (o : Option Text) (r f : Text) (fs : List Text) → AreReady b o → AreGiven b o
    → asked_of (name b, end_rows b o r (f ∷ fs)) ≡ Some (ask b (plain_listing (workers_of b) (items_given o) r (f ∷ fs)))
asks_order (of_run None) None r f fs ready given = refl
asks_order (of_run None) (Some k) r f fs ready given = rw (no_hyphen k ready.1.0, given.1) refl
asks_order (of_run (Some j)) None r f fs ready given = rw (no_hyphen j ready.0.0, given.0) refl
asks_order (of_run (Some j)) (Some k) r f fs ready given = rw (no_hyphen j ready.0.0, given.0, no_hyphen k ready.1.0, given.1) refl
asks_order (of_scan None) None r f fs ready given = refl
asks_order (of_scan None) (Some k) r f fs ready given = rw (no_hyphen k ready.1.0, given.1) refl
asks_order (of_scan (Some j)) None r f fs ready given = rw (no_hyphen j ready.0.0, given.0) refl
asks_order (of_scan (Some j)) (Some k) r f fs ready given = rw (no_hyphen j ready.0.0, given.0, no_hyphen k ready.1.0, given.1) refl

pub plain_words_ask : (b : Listing) (program : Text) (o : Option Text) (r f : Text) (fs : List Text) → AreGiven b o → All IsPlainWord (r ∷ f ∷ fs) → length fs < usize_max
    → asked_by (program ∷ name b ∷ (first_words b ++ (items_words o ++ r ∷ f ∷ fs))) ≡ Some (ask b (plain_listing (workers_of b) (items_given o) r (f ∷ fs)))
plain_words_ask b program o r f fs given all few =
    asks program (name b) _ (listing b) _ (enters b)
    (all_steps b o r f fs (all_ready b o given) (all 0 [] (omega arith)) (all 1 [] (omega arith)) (All-drop IsPlainWord 2 (r ∷ f ∷ fs) all))
    (ends_well b o r f fs few)
    ∙ (ap (λ (rows : List Row). asked_of (name b, rows)) (finished_rows b o r f fs) ∙ asks_order b o r f fs (all_ready b o given) given)
