-- The steps of `clap` on arguments of `lx`: a subcommand's name, and words that begin with no hyphen.
use Rattle.std.proofs.Common.{◌≡◌, ◌∙◌, ◌++◌, Bool, true, false, refl, sym, ap, ap₂, arith, ℕ, List, [], ◌∷◌, length, Option, Some, None, is_some, find}
use Rattle.std.proofs.lemmas.Bool.{lt-leb, ne_eqb}
use Rattle.std.proofs.lemmas.List.{append-nil, append_assoc}
use Rattle.std.specs.Option.{option_map_or}
use Rattle.std.specs.Prelude.{fold, option_map}
use Rattle.std.specs.Str.{bytes_eq}
use Rattle.clap.specs.Faults.{built_fault, check_fault, defaults_fault, entered_fault, level_fault, positional_fault, settle_fault, turn_fault, walk_fault, word_fault}
use Rattle.clap.specs.Kinds.{Kinds, or_else}
use Rattle.clap.specs.Lexer.{strip_byte}
use Rattle.clap.specs.Simple.{argument_words, entered, label_of, names_of, rows_at}
use Rattle.clap.specs.Walk.{Held, Names, Waiting, Walk, answers_to, arg_by_index, finished, nothing_held, plain_word, settled, subcommand_met, to_positional, value, walk_from, walked, word_met}
use Rattle.clap.specs.Words.{Row, Rule, Shape, Text, built, fault_of, subcommand_of}
use Rattle.lx_cli.specs.CommandLine.{IsPlainWord, asked_by, asked_of, lx_app}

-- ---- steps over words

-- the state of a walk between two words
abbrev pub standing : Held → Waiting → ℕ → Walk
standing h waiting position = record { held = h; waiting = waiting; position = position; is_trailing = false; stopped = None }

-- the words lead the walk from `w` to `end`, and `clap` finds no fault with them
pub record Steps (s : Shape) (names : Names) (w : Walk) (words : List Text) (end : Walk) : Type 0 where
  pub passes : walk_fault s names w words ≡ []
  pub ends : fold (walked s.rules names) w words ≡ end

pub no_words : (s : Shape) (names : Names) (w : Walk) → Steps s names w [] w
unfolding walk_fault
no_words s names w = record { passes = refl; ends = refl }

pub step_then : (s : Shape) (names : Names) (w next end : Walk) (word : Text) (rest : List Text) → turn_fault s names w word ≡ [] → walked s.rules names w word ≡ next
    → Steps s names next rest end → Steps s names w (word ∷ rest) end
unfolding walk_fault
step_then s names w next end word rest passes is after = record {
  passes = ap₂ or_else passes (ap (λ (v : Walk). walk_fault s names v rest) is ∙ after.passes);
  ends = ap (λ (v : Walk). fold (walked s.rules names) v rest) is ∙ after.ends;
}

-- the work that is left at the end of the words
abbrev pub ending : Shape → Held → Bool → Kinds
ending s h has = or_else (settle_fault s.rules s.args_override_self h) (or_else (defaults_fault (settled s.rules h).rows s.rules) (check_fault s (finished s.rules h) has))

pub level_ends : (s : Shape) (names : Names) (words : List Text) (end : Walk) (has : Bool) (below : Kinds) → Steps s names (walk_from nothing_held) words end
    → level_fault s names nothing_held words has below ≡ or_else below (ending s end.held has)
level_ends s names words end has below steps =
    ap₂ (λ (k : Kinds) (w : Walk). or_else k (or_else below (ending s w.held has))) steps.passes steps.ends

-- ---- a word that begins with no hyphen

pub no_hyphen : (w : Text) → IsPlainWord w → strip_byte 45 w ≡ None
no_hyphen [] h = refl
no_hyphen (x ∷ xs) h = rw (ne_eqb _ _ h) refl

not_dashes : (w : Text) → IsPlainWord w → bytes_eq w (45 ∷ 45 ∷ []) ≡ false
not_dashes [] h = refl
not_dashes (x ∷ xs) h = rw (ne_eqb _ _ h) refl

module _ (s : Shape) (word : Text) (h : Held) (waiting : Waiting) (position : ℕ) (plain : IsPlainWord word) (none : subcommand_met [] waiting word ≡ None) where
  pub met_plain : word_met s.rules [] false waiting position word h ≡ plain_word s.rules waiting word h
  met_plain = rw (none, not_dashes word plain, no_hyphen word plain, no_hyphen word plain) refl

  pub no_fault : word_fault s [] false waiting word h ≡ []
  no_fault = rw (none, not_dashes word plain, no_hyphen word plain, no_hyphen word plain) refl

  -- it is the turn of the positional
  module _ (a : Rule) (is_value : plain_word s.rules waiting word h ≡ (h, value)) (here : arg_by_index s.rules position ≡ Some a) where
    pub value_passes : positional_fault s.rules s.args_override_self a h ≡ [] → turn_fault s [] (standing h waiting position) word ≡ []
    value_passes passes = rw (no_fault, met_plain, is_value, here) passes

    pub value_goes : walked s.rules [] (standing h waiting position) word ≡ to_positional s.rules (Some a) word (standing h waiting position) h
    unfolding walked
    value_goes = rw (met_plain, is_value, here) refl

-- ---- a subcommand's name

-- once a subcommand is met, the words after it are its own
pub stays : (s : Shape) (names : Names) (w : Walk) (name : Text) (before words : List Text)
    → Steps s names (record w { stopped = Some (name, before) }) words (record w { stopped = Some (name, before ++ words) })
unfolding walked walk_fault
stays s names w name before [] = record {
  passes = refl;
  ends = ap (λ (xs : List Text). record w { stopped = Some (name, xs) }) (sym (append-nil before));
}
stays s names w name before (word ∷ words) =
    let after = stays s names w name (before ++ word ∷ []) words in
    step_then s names _ (record w { stopped = Some (name, before ++ word ∷ []) }) _ word words refl refl (record {
      passes = after.passes;
      ends = after.ends ∙ ap (λ (xs : List Text). record w { stopped = Some (name, xs) }) (append_assoc before (word ∷ []) words);
    })

-- the name leads to the subcommand s of `lx`
pub record Enters (name : Text) (s : Shape) : Type 0 where
  pub passes : turn_fault (built lx_app).top (names_of (built lx_app)) (walk_from nothing_held) name ≡ []
  pub goes : walked (built lx_app).top.rules (names_of (built lx_app)) (walk_from nothing_held) name ≡ record (walk_from nothing_held) { stopped = Some (name, []) }
  pub found : find (λ s. answers_to name (label_of s)) (built lx_app).subs ≡ Some s

top_ends : ending (built lx_app).top nothing_held true ≡ []
unfolding lx_app defaults_fault
top_ends = refl

words_of_lx : (program : Text) (words : List Text) → argument_words lx_app (program ∷ words) ≡ words
unfolding lx_app
words_of_lx program words = refl

module _ (program name : Text) (rest : List Text) (s : Shape) (end : Walk) (enters : Enters name s) (steps : Steps s [] (walk_from nothing_held) rest end) where
  at_top : Steps (built lx_app).top (names_of (built lx_app)) (walk_from nothing_held) (name ∷ rest) (record (walk_from nothing_held) { stopped = Some (name, rest) })
  at_top = step_then _ _ _ _ _ name rest enters.passes enters.goes (stays _ _ (walk_from nothing_held) name [] rest)

  is_entered : entered (built lx_app) (Some (name, rest)) ≡ Some (rows_at s rest)
  is_entered = ap (option_map (λ (s : Shape). rows_at s rest)) enters.found

  rows_are : subcommand_of lx_app (program ∷ name ∷ rest) ≡ Some (s.name, finished s.rules end.held)
  rows_are =
      ap (λ (words : List Text). entered (built lx_app) (fold (walked (built lx_app).top.rules (names_of (built lx_app))) (walk_from nothing_held) words).stopped) (words_of_lx program (name ∷ rest))
      ∙ (ap (λ (w : Walk). entered (built lx_app) w.stopped) at_top.ends
      ∙ (is_entered ∙ ap (λ (w : Walk). Some (s.name, finished s.rules w.held)) steps.ends))

  no_faults : ending s end.held false ≡ [] → fault_of lx_app (program ∷ name ∷ rest) ≡ []
  no_faults passes =
      let a = built lx_app in
      let below : entered_fault a (Some (name, rest)) ≡ [] =
      ap (λ (o : Option Shape). option_map_or (λ s. level_fault s [] nothing_held rest false []) o []) enters.found ∙ (level_ends s [] rest end false [] steps ∙ passes) in
      ap (built_fault a nothing_held) (words_of_lx program (name ∷ rest))
      ∙ (ap (λ (w : Walk). level_fault a.top (names_of a) nothing_held (name ∷ rest) (is_some (entered a w.stopped)) (entered_fault a w.stopped)) at_top.ends
      ∙ (ap₂ (λ (o : Option (Text × List Row)) (k : Kinds). level_fault a.top (names_of a) nothing_held (name ∷ rest) (is_some o) k) is_entered below
      ∙ (level_ends a.top (names_of a) (name ∷ rest) _ true [] at_top ∙ top_ends)))

  -- the request of words that begin with a subcommand's name
  pub asks : ending s end.held false ≡ [] → asked_by (program ∷ name ∷ rest) ≡ asked_of (s.name, finished s.rules end.held)
  unfolding asked_by
  asks passes = rw (lt-leb (length (program ∷ name ∷ rest)) 1 (omega arith), no_faults passes, rows_are) refl
