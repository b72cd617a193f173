-- The requests of command-line arguments: one if `clap` accepts the arguments, and none if it doesn't.
use Rattle.std.proofs.Common.{◌≡◌, ◌∙◌, ◌<◌, ◌≤◌, ◌&&◌, Bool, true, false, not, refl, sym, ap, subst, inl, inr, arith, List, [], ◌∷◌, length, Option, Some, None, ⊎_elim, is_some, find, option_and_then, option_map}
use Rattle.std.specs.Prelude.{⊤}
use Rattle.std.proofs.lemmas.Bool.{le-leb, lt-leb, ne_eqb, true≢false}
use Rattle.clap.proofs.WalkLemmas.{both}
use Rattle.clap.specs.declared.error.Error.{Error}
use Rattle.clap.specs.declared.error.kind.ErrorKind.TheVariants as kind
use Rattle.clap.specs.Faults.{check_fault, defaults_fault, level_fault, settle_fault, walk_fault}
use Rattle.clap.specs.Kinds.{HasKind, Kinds, check_kinds, or_else}
use Rattle.clap.specs.Simple.{argument_words, entered, label_of, names_of, rows_at}
use Rattle.clap.specs.Facts.{explicit_source}
use Rattle.std.specs.List.{list_any}
use Rattle.clap.specs.Walk.{Held, Names, answers_to, finished, is_empty, settled, stop_after, walk, walk_from}
use Rattle.clap.specs.Takes.{is_given}
use Rattle.clap.specs.Words.{App, HasMatchesOf, Row, Shape, Text, built, fault_of, is_simple_and_free, kind_of, subcommand_of, subcommand_rows_of}
use Rattle.clap.specs.declared.parser.ArgMatches.{ArgMatches}
use Rattle.lx_cli.specs.CommandLine.{IsFault, asked_as, asked_by, asked_of, lx_app, stored}
use Rattle.lx_cli.specs.declared.request.Request.{Request}
use Rattle.lx_cli.specs.declared.request.Request.TheVariants.{Told}

pub lx_is_simple : is_simple_and_free lx_app ≡ true
unfolding lx_app
lx_is_simple = refl

lx_requires : (built lx_app).top.subcommand_required ≡ true
unfolding lx_app
lx_requires = refl

-- ---- a subcommand of the command's is met

later : (a b : Kinds) → or_else a b ≡ [] → b ≡ []
later [] b e = e
later (k ∷ ks) b e = cc

wanted : (help argument : Bool) → check_kinds help true argument ≡ [] → ⊥
wanted true argument e = cc
wanted false argument e = cc

checked : (s : Shape) (rows : List Row) (has : Bool) → s.subcommand_required ≡ true → check_fault s rows has ≡ [] → has ≡ true
checked s rows true required e = refl
checked s rows false required e = absurd (wanted (s.arg_required_else_help && not (list_any (λ r. explicit_source r.source) rows)) (not (s.subcommand_negates_reqs && false) && list_any (λ a. a.required && not (is_given a.id rows)) s.rules)
    (rw required at e))

met : (s : Shape) (names : Names) (h : Held) (words : List Text) (has : Bool) (below : Kinds) → s.subcommand_required ≡ true
    → level_fault s names h words has below ≡ [] → has ≡ true
met s names h words has below required e =
    let end = (walk s.rules names h words).held in
    let rows = (settled s.rules end).rows in
    checked s (finished s.rules end) has required
    (later (defaults_fault rows s.rules) _ (later (settle_fault s.rules s.args_override_self end) _ (later below _ (later (walk_fault s names (walk_from h) words) _ e))))

-- ---- and it asks for something

abbrev Each : {X : Type 0} → (X → Type 0) → List X → Type 0
Each P [] = ⊤
Each P (x ∷ xs) = P x × Each P xs

abbrev IsKnown : Shape → Type 0
IsKnown s = (words : List Text) → is_some (asked_of (rows_at s words)) ≡ true

all_known : Each IsKnown (built lx_app).subs
unfolding lx_app
all_known = (λ _. refl, (λ _. refl, (λ _. refl, (λ _. refl, (λ _. refl, (λ _. refl, (λ _. refl, (λ _. refl, tt))))))))

found_known : (word : Text) (words : List Text) (subs : List Shape) → Each IsKnown subs
    → is_some (option_map (λ s. rows_at s words) (find (λ s. answers_to word (label_of s)) subs)) ≡ true
    → is_some (option_and_then asked_of (option_map (λ s. rows_at s words) (find (λ s. answers_to word (label_of s)) subs))) ≡ true
found_known word words [] known e = cc
found_known word words (s ∷ subs) known e = go (answers_to word (label_of s)) refl (found_known word words subs known.1)
  where
    go : (b : Bool) → answers_to word (label_of s) ≡ b
        → (is_some (option_map (λ s. rows_at s words) (find (λ s. answers_to word (label_of s)) subs)) ≡ true
        → is_some (option_and_then asked_of (option_map (λ s. rows_at s words) (find (λ s. answers_to word (label_of s)) subs))) ≡ true)
        → is_some (option_and_then asked_of (option_map (λ s. rows_at s words) (find (λ s. answers_to word (label_of s)) (s ∷ subs)))) ≡ true
    go true t rest = rw t (known.0 words)
    go false t rest = rw t (rest (rw t at e))

entered_known : (a : App) (stop : Option (Text × List Text)) → Each IsKnown a.subs → is_some (entered a stop) ≡ true
    → is_some (option_and_then asked_of (entered a stop)) ≡ true
entered_known a None known e = cc
entered_known a (Some p) known e = found_known p.0 p.1 a.subs known e

pub asks_something : (words : List Text) → fault_of lx_app words ≡ [] → is_some (option_and_then asked_of (subcommand_of lx_app words)) ≡ true
asks_something words none =
    entered_known (built lx_app) (stop_after (built lx_app).top.rules (names_of (built lx_app)) (argument_words lx_app words)) all_known
    (met (built lx_app).top _ _ _ _ _ lx_requires none)

-- ---- the request

pub not_told : (order : Request) (text : Error) → order ≡ Told text → is_some (asked_as order) ≡ true → ⊥
not_told order text is some = true≢false (sym some ∙ ap (λ (o : Request). is_some (asked_as o)) is)

pub asked_where_stored : (words : List Text) → length words ≤ 1 → asked_by words ≡ Some stored
unfolding asked_by
asked_where_stored words few = rw (le-leb (length words) 1 few) refl

faulty : (kinds : Kinds) (e : Error) → HasKind kinds e → (kind_of e ≡ kind.OutOfMemory → ⊥) → is_empty kinds ≡ false
faulty [] e (inl memory) other = absurd (other memory)
faulty [] e (inr none) other = absurd none
faulty (k ∷ ks) e h other = ne_eqb _ _ (λ e. omega arith)

-- the command of the code, on words that are not the stored run's
module _ (a : App) (words : List Text) (is : a ≡ lx_app) (some : 1 < length words) where
  simple : is_simple_and_free a ≡ true
  simple = ap is_simple_and_free is ∙ lx_is_simple

  taken : (is_simple_and_free a ≡ true → fault_of a words ≡ []) → fault_of lx_app words ≡ []
  taken h = ap (λ (b : App). fault_of b words) (sym is) ∙ h simple

  met_by : (m : ArgMatches) → HasMatchesOf a words m → subcommand_rows_of m ≡ subcommand_of lx_app words
  met_by m h = (h (both _ _ simple).0).1 ∙ ap (λ (b : App). subcommand_of b words) is

  -- if the arguments are accepted, the subcommand has a request, and it is that of the arguments
  pub met_asks : (m : ArgMatches) → (is_simple_and_free a ≡ true → fault_of a words ≡ []) → HasMatchesOf a words m
      → is_some (option_and_then asked_of (subcommand_rows_of m)) ≡ true
  met_asks m none h = ap (λ (o : Option (Text × List Row)). is_some (option_and_then asked_of o)) (met_by m h) ∙ asks_something words (taken none)

  pub asked_where_taken : (m : ArgMatches) → (is_simple_and_free a ≡ true → fault_of a words ≡ []) → HasMatchesOf a words m
      → asked_by words ≡ option_and_then asked_of (subcommand_rows_of m)
  unfolding asked_by
  asked_where_taken m none h = rw (lt-leb (length words) 1 some, taken none) (ap (option_and_then asked_of) (sym (met_by m h)))

  -- if they are rejected, they have no request
  pub asked_where_refused : (e : Error) → (is_simple_and_free a ≡ true → HasKind (fault_of a words) e) → (kind_of e ≡ kind.OutOfMemory → ⊥) → asked_by words ≡ None
  unfolding asked_by
  asked_where_refused e h other =
      rw (lt-leb (length words) 1 some, faulty (fault_of lx_app words) e (subst (λ (b : App). HasKind (fault_of b words) e) is (h simple)) other) refl

  pub fault_is : (e : Error) → (is_simple_and_free a ≡ true → HasKind (fault_of a words) e) → (kind_of e ≡ kind.OutOfMemory → ⊥) → IsFault words (kind_of e)
  fault_is e h other = ⊎_elim (λ memory. absurd (other memory)) (λ k. k) (subst (λ (b : App). HasKind (fault_of b words) e) is (h simple))
