-- Tables that read a text byte by byte and remember the last place at which they accepted a rule with a token.
use Rattle.std.proofs.Common.{◌≡◌, ℕ, zero, suc, ◌+◌, ◌-◌, ◌<◌, ◌≤◌, Bool, List, [], ◌∷◌, ◌++◌, Option, Some, None, length, take, drop, refl, sym, ap, subst, ◌∙◌, arith, add-one}
use Rattle.std.specs.Prelude.{slice_index}
use Rattle.std.specs.Option.{option_or}
use Rattle.std.proofs.lemmas.List.{take_more, take-take, take-append-drop}
use Rattle.lx_automaton.specs.Automata.{Machine, state_count, start_of, target_of, accepted_by, accepted_at, state_after, answer}
use Rattle.lx_tables.specs.Model.{Table}
use Rattle.lx_scan.specs.Answers.{furthest, match_after}

-- ---- words
no_bytes : (m : Machine) (s : Option ℕ) → state_after m s [] ≡ s
no_bytes m None = refl
no_bytes m (Some s) = refl

-- a word, and then another
pub state_after_both : (m : Machine) (s : Option ℕ) (u v : List ℕ) → state_after m s (u ++ v) ≡ state_after m (state_after m s u) v
state_after_both m None u v = refl
state_after_both m (Some s) [] v = refl
state_after_both m (Some s) (b ∷ u) v = state_after_both m (target_of m s b) u v

-- one byte more
pub state_after_byte : (m : Machine) (s : Option ℕ) (text : List ℕ) (n t : ℕ) → n < length text → state_after m s (take n text) ≡ Some t →
    state_after m s (take (n + 1) text) ≡ target_of m t (slice_index text n)
state_after_byte m s text n t h there =
    ap (λ w. state_after m s w) (take_more text n 0 h)
    ∙ state_after_both m s (take n text) (slice_index text n ∷ [])
    ∙ ap (λ o. state_after m o (slice_index text n ∷ [])) there
    ∙ no_bytes m (target_of m t (slice_index text n))

-- once a step is missing, no further byte leads anywhere
pub state_after_none : (m : Machine) (s : Option ℕ) (text : List ℕ) (n k : ℕ) → n ≤ k → state_after m s (take n text) ≡ None → state_after m s (take k text) ≡ None
state_after_none m s text n k h none =
    ap (λ w. state_after m s w) (sym (take-append-drop n (take k text)))
    ∙ state_after_both m s (take n (take k text)) (drop n (take k text))
    ∙ ap (λ w. state_after m (state_after m s w) (drop n (take k text))) (take-take n k text h)
    ∙ ap (λ o. state_after m o (drop n (take k text))) none

-- ---- the last place at which a rule with a token is accepted
module _ (table : Table) (condition : ℕ) (begin : Bool) (text : List ℕ) where
  -- the facts once this number of bytes is read
  pub record HasRead (read state : ℕ) (last : Option (ℕ × ℕ)) : Type 0 where
    pub within : read ≤ length text
    pub known : state < state_count table.machine
    pub there : state_after table.machine (Some (start_of table.machine condition begin)) (take read text) ≡ Some state
    pub furthest : last ≡ furthest table condition begin text read

  pub nothing_read : start_of table.machine condition begin < state_count table.machine → HasRead 0 (start_of table.machine condition begin) None
  nothing_read known = record { within = omega arith; known = known; there = refl; furthest = refl }

  -- the match after one byte more
  further : (read : ℕ) (found : Option ℕ) → answer table.machine condition begin (take (read + 1) text) ≡ found →
      furthest table condition begin text (read + 1) ≡ option_or (match_after table found (read + 1)) (furthest table condition begin text read)
  further read found is =
      let one : read + 1 ≡ suc read = add-one read in
      let behind : answer table.machine condition begin (take (suc read) text) ≡ found = ap (λ (n : ℕ). answer table.machine condition begin (take n text)) (sym one) ∙ is in
      ap (λ (n : ℕ). furthest table condition begin text n) one
      ∙ ap (λ (o : Option ℕ). option_or (match_after table o (suc read)) (furthest table condition begin text read)) behind
      ∙ ap (λ (n : ℕ). option_or (match_after table found n) (furthest table condition begin text read)) (sym one)

  step_there : (read state byte next : ℕ) (last : Option (ℕ × ℕ)) → read < length text → slice_index text read ≡ byte → target_of table.machine state byte ≡ Some next → HasRead read state last →
      state_after table.machine (Some (start_of table.machine condition begin)) (take (read + 1) text) ≡ Some next
  step_there read state byte next last more is step r =
      state_after_byte table.machine (Some (start_of table.machine condition begin)) text read state more r.there ∙ ap (λ b. target_of table.machine state b) is ∙ step

  answer_there : (n state : ℕ) → state_after table.machine (Some (start_of table.machine condition begin)) (take n text) ≡ Some state → answer table.machine condition begin (take n text) ≡ accepted_by table.machine state
  answer_there n state there = ap (λ o. accepted_at table.machine o) there

  -- the tables step to a state
  pub reads_on : (read state next : ℕ) (last new : Option (ℕ × ℕ)) → read < length text → Some next ≡ target_of table.machine state (slice_index text read) → next < state_count table.machine →
      new ≡ option_or (match_after table (accepted_by table.machine next) (read + 1)) last → HasRead read state last → HasRead (read + 1) next new
  reads_on read state next last new more step known is_new r =
      let there = step_there read state (slice_index text read) next last more refl (sym step) r in
      record {
        within = omega arith;
        known = known;
        there = there;
        furthest = is_new
            ∙ ap (λ (o : Option (ℕ × ℕ)). option_or (match_after table (accepted_by table.machine next) (read + 1)) o) r.furthest
            ∙ sym (further read (accepted_by table.machine next) (answer_there (read + 1) next there));
      }

  -- a step is missing: nothing is accepted from here on
  none_further : (read state byte : ℕ) (last : Option (ℕ × ℕ)) → read < length text → slice_index text read ≡ byte → target_of table.machine state byte ≡ None → HasRead read state last → (k n : ℕ) → k + read ≡ n →
      last ≡ furthest table condition begin text n
  none_further read state byte last more is missing r zero n e = let same : read ≡ n = omega arith in r.furthest ∙ ap (λ (m : ℕ). furthest table condition begin text m) same
  none_further read state byte last more is missing r (suc k) zero e = absurd (omega arith)
  none_further read state byte last more is missing r (suc k) (suc n) e =
      let start = Some (start_of table.machine condition begin) in
      let stopped : state_after table.machine start (take (read + 1) text) ≡ None = state_after_byte table.machine start text read state more r.there ∙ ap (λ b. target_of table.machine state b) is ∙ missing in
      let silent : answer table.machine condition begin (take (suc n) text) ≡ None = ap (λ o. accepted_at table.machine o) (state_after_none table.machine start text (read + 1) (suc n) (omega arith) stopped) in
      none_further read state byte last more is missing r k n (omega arith)
      ∙ sym (ap (λ (o : Option ℕ). option_or (match_after table o (suc n)) (furthest table condition begin text n)) silent)

  pub reads_no_more : (read state byte : ℕ) (last : Option (ℕ × ℕ)) → read < length text → slice_index text read ≡ byte → target_of table.machine state byte ≡ None → HasRead read state last →
      last ≡ furthest table condition begin text (length text)
  reads_no_more read state byte last more is missing r = none_further read state byte last more is missing r (length text - read) (length text) (omega arith)

  -- the whole text is read
  pub reads_all : (read state : ℕ) (last : Option (ℕ × ℕ)) → length text ≤ read → HasRead read state last → last ≡ furthest table condition begin text (length text)
  reads_all read state last end r =
      let within = r.within in
      let same : read ≡ length text = omega arith in
      subst (λ (n : ℕ). last ≡ furthest table condition begin text n) same r.furthest

pub ruleset scan_steps = (nothing_read, reads_on, reads_no_more, reads_all)
