-- An automaton with its states in another order answers as it did, and texts lead to the same states.
use Rattle.std.proofs.Common.{◌≡◌, ◌≢◌, ℕ, ◌+◌, ◌-◌, ◌*◌, ◌<◌, ◌≤◌, nat_lt, if◌then◌else◌, Bool, true, false, Option, Some, None, List, [], ◌∷◌, length, slice_index, All, refl, sym, ◌∙◌, ap, subst, arith, inl, inr}
use Rattle.std.proofs.lemmas.Bool.{cases_lt, ltb-true, lt-ltb}
use Rattle.std.proofs.lemmas.List.{length-map, get_or_past}
use Rattle.std.proofs.lemmas.List.Elements.{All-head, All-tail}
use Rattle.std.proofs.lemmas.Option.{slice_get_within}
use Rattle.lx_rules.specs.Plain.{PlainSpec}
use Rattle.lx_automaton.specs.Automata.{Machine, IsMachine, HasByteClasses, state_count, start_of, accepted_by, class_target, target_of, state_after, accepted_at, answer}
use Rattle.lx_automaton.specs.Equivalence.{AreEquivalentMachines}
use Rattle.lx_automaton.specs.Leading.{AreAllLedTo}
use Rattle.lx_automaton.specs.Meaning.{IsAnswer, IsAutomatonOf}
use Rattle.lx_automaton.specs.EncodedOptions.{decoded_option, machine_of}
use Rattle.lx_automaton.specs.Numbered.{AreAllMet, AreStarts, AreAccepted, AreRows, encoded_option_of, rule_below}
use Rattle.lx_automaton.proofs.Meeting.{all_met}
use Rattle.lx_automaton.proofs.EncodedLists.{decoded_at, decoded_option-some, decoded_option-same, encoded_option_above}
use Rattle.lx_automaton.proofs.RowMajor.{in_row}

pub rule_kept : (rules rule : ℕ) → rule < rules → rule_below rules (Some rule) ≡ Some rule
rule_kept rules rule l = ap (λ (b : Bool). if b then Some rule else None) (lt-ltb rule rules l)

rule_found : (rules r : ℕ) (o : Option ℕ) → rule_below rules o ≡ Some r → r < rules
rule_found rules r None e = let f : None ≡ Some r = e in cc
rule_found rules r (Some rule) e = at (nat_lt rule rules) refl e
  where
    at : (b : Bool) → nat_lt rule rules ≡ b → (if b then Some rule else None) ≡ Some r → r < rules
    at true f g = let l = ltb-true rule rules f in let h : rule ≡ r = cc in omega arith
    at false f g = let h : None ≡ Some r = g in cc

-- an answer is a rule of the specification
answer_kept : (spec : PlainSpec) (c : ℕ) (begin : Bool) (w : List ℕ) (o : Option ℕ) → IsAnswer spec c begin w o → rule_below (length spec.rules) o ≡ o
answer_kept spec c begin w None h = refl
answer_kept spec c begin w (Some i) h = rule_kept (length spec.rules) i (slice_get_within spec.rules i h.0.rule h.0.at)

module _ (m : Machine) (states encoded_options : List ℕ) (starts : List (ℕ × ℕ)) (accepted targets : List ℕ) (rules : ℕ)
    (is : IsMachine m) (has : HasByteClasses m) (all : AreAllMet states encoded_options) (long : length encoded_options ≡ state_count m)
    (are_starts : AreStarts m encoded_options starts (length m.starts)) (are_accepted : AreAccepted m rules states accepted (length states))
    (are_rows : AreRows m states encoded_options targets (length states * m.width)) (few : rules ≤ 4096) where
  abbrev pub q : Machine
  q = machine_of starts m.classes m.width accepted targets

  places : length states ≡ state_count m
  places = all_met states encoded_options all ∙ long

  count : state_count q ≡ state_count m
  count = length-map accepted decoded_option ∙ are_accepted.long ∙ places

  has_encoded_option : (s : ℕ) → s < state_count m → slice_index encoded_options s ≢ 0
  has_encoded_option s h = all.each s (omega (arith, long))

  -- the place of a state, and the state at it
  place_below : (s : ℕ) → s < state_count m → slice_index encoded_options s ≤ length states
  place_below s h = all.met.within s (omega (arith, long)) (has_encoded_option s h)

  state_at : (s : ℕ) → s < state_count m → slice_index states (slice_index encoded_options s - 1) ≡ s
  state_at s h = all.met.found s (omega (arith, long)) (has_encoded_option s h)

  accepted_place : (i : ℕ) → i < length states → accepted_by q i ≡ rule_below rules (accepted_by m (slice_index states i))
  accepted_place i h = decoded_at accepted i ∙ are_accepted.each i h

  -- the place of a state in the new order
  abbrev moved : Option ℕ → Option ℕ
  moved o = decoded_option (encoded_option_of encoded_options o)

  moved_some : (s : ℕ) → s < state_count m → moved (Some s) ≡ Some (slice_index encoded_options s - 1)
  moved_some s h = decoded_option-some (slice_index encoded_options s) (has_encoded_option s h)

  target_place : (i c : ℕ) → i < length states → c < m.width → class_target q i c ≡ moved (class_target m (slice_index states i) c)
  target_place i c hi hc = decoded_at targets (i * m.width + c) ∙ ap decoded_option (are_rows.each i c hc (in_row i c (length states) m.width hi hc))

  accepted_state : (s : ℕ) → s < state_count m → accepted_by q (slice_index encoded_options s - 1) ≡ rule_below rules (accepted_by m s)
  accepted_state s h =
      let p = place_below s h in
      let n = has_encoded_option s h in
      accepted_place (slice_index encoded_options s - 1) (omega arith) ∙ ap (λ t. rule_below rules (accepted_by m t)) (state_at s h)

  target_state : (s c : ℕ) → s < state_count m → c < m.width → class_target q (slice_index encoded_options s - 1) c ≡ moved (class_target m s c)
  target_state s c h hc =
      let p = place_below s h in
      let n = has_encoded_option s h in
      target_place (slice_index encoded_options s - 1) c (omega arith) hc ∙ ap (λ t. moved (class_target m t c)) (state_at s h)

  -- a state, if there is one, is a state of the automaton
  abbrev IsThere : Option ℕ → Type 0
  IsThere o = (s : ℕ) → o ≡ Some s → s < state_count m

  there_next : (s b : ℕ) → s < state_count m → b < 256 → IsThere (target_of m s b)
  there_next s b h hb t e = is.closed s (slice_index m.classes b) t h (is.below b hb) e

  there_after : (w : List ℕ) (o : Option ℕ) → IsThere o → All (λ b. b < 256) w → IsThere (state_after m o w)
  there_after w None h bytes = λ s e. let f : None ≡ Some s = e in cc
  there_after [] (Some s) h bytes = h
  there_after (b ∷ w) (Some s) h bytes = there_after w (target_of m s b) (there_next s b (h s refl) (All-head (λ b. b < 256) b w bytes)) (All-tail (λ b. b < 256) b w bytes)

  moved_after : (w : List ℕ) (o : Option ℕ) → IsThere o → All (λ b. b < 256) w → state_after q (moved o) w ≡ moved (state_after m o w)
  moved_after w None h bytes = refl
  moved_after [] (Some s) h bytes = rw (moved_some s (h s refl)) refl
  moved_after (b ∷ w) (Some s) h bytes =
      let hb : b < 256 = All-head (λ b. b < 256) b w bytes in
      ap (λ o. state_after q o (b ∷ w)) (moved_some s (h s refl))
      ∙ ap (λ o. state_after q o w) (target_state s (slice_index m.classes b) (h s refl) (is.below b hb))
      ∙ moved_after w (target_of m s b) (there_next s b (h s refl) hb) (All-tail (λ b. b < 256) b w bytes)

  accepted_moved : (o : Option ℕ) → IsThere o → accepted_at q (moved o) ≡ rule_below rules (accepted_at m o)
  accepted_moved None h = refl
  accepted_moved (Some s) h = ap (λ o. accepted_at q o) (moved_some s (h s refl)) ∙ accepted_state s (h s refl)

  start_encoded_option : (c : ℕ) (begin : Bool) → c < length m.starts → start_of q c begin + 1 ≡ slice_index encoded_options (start_of m c begin)
  start_encoded_option c true h = are_starts.at_begin c h
  start_encoded_option c false h = are_starts.elsewhere c h

  there_start : (c : ℕ) (begin : Bool) → c < length m.starts → IsThere (Some (start_of m c begin))
  there_start c begin h t e = let f : start_of m c begin ≡ t = cc in let hs = is.starts c begin h in omega arith

  moved_start : (c : ℕ) (begin : Bool) → c < length m.starts → Some (start_of q c begin) ≡ moved (Some (start_of m c begin))
  moved_start c begin h =
      let n : start_of q c begin ≡ slice_index encoded_options (start_of m c begin) - 1 = (let x = start_encoded_option c begin h in omega arith) in
      ap (λ k. Some k) n ∙ sym (moved_some (start_of m c begin) (is.starts c begin h))

  -- the state to which a text leads from a start
  after_start : (c : ℕ) (begin : Bool) (w : List ℕ) → c < length m.starts → All (λ b. b < 256) w →
      state_after q (Some (start_of q c begin)) w ≡ moved (state_after m (Some (start_of m c begin)) w)
  after_start c begin w h bytes = ap (λ o. state_after q o w) (moved_start c begin h) ∙ moved_after w (Some (start_of m c begin)) (there_start c begin h) bytes

  answers_below : (c : ℕ) (begin : Bool) (w : List ℕ) → c < length m.starts → All (λ b. b < 256) w → answer q c begin w ≡ rule_below rules (answer m c begin w)
  answers_below c begin w h bytes =
      let s = start_of m c begin in
      ap (λ o. accepted_at q o) (after_start c begin w h bytes)
      ∙ accepted_moved (state_after m (Some s) w) (there_after w (Some s) (there_start c begin h) bytes)

  pub reordered_led : AreAllLedTo m → AreAllLedTo q
  reordered_led all_led = record {
    each = λ i h.
        let l : i < length states = omega (arith, count, places) in
        let s = slice_index states i in
        let hs : s < state_count m = (let b = all.met.below i l in omega (arith, long)) in
        let place : slice_index encoded_options s - 1 ≡ i = (let e = all.met.placed i l in omega arith) in
        let led = all_led.each s hs in
        record {
          condition = led.condition;
          begin = led.begin;
          text = led.text;
          there = let e = are_starts.long in let t = led.there in omega arith;
          bytes = led.bytes;
          leads = after_start led.condition led.begin led.text led.there led.bytes ∙ ap (λ o. moved o) led.leads ∙ moved_some s hs ∙ ap (λ k. Some k) place;
        };
  }

  pub starts_long : length starts ≡ length m.starts
  starts_long = are_starts.long

  -- each accepted rule exists
  pub accepts_below : (s r : ℕ) → accepted_by q s ≡ Some r → r < rules
  accepts_below s r e = elim (cases_lt s (length states)) [
    | inl l ↦ rule_found rules r (accepted_by m (slice_index states s)) (sym (accepted_place s l) ∙ e)
    | inr l ↦ let f : None ≡ Some r = sym (get_or_past q.accepted s None (omega (arith, count, places))) ∙ e in cc
  ]

  closed_at : (t : ℕ) (o : Option ℕ) → IsThere o → moved o ≡ Some t → t < state_count m
  closed_at t None h e = let f : None ≡ Some t = e in cc
  closed_at t (Some u) h e = let a = encoded_option_above (slice_index encoded_options u) t e in let p = place_below u (h u refl) in omega (arith, places)

  pub reordered_machine : IsMachine q
  reordered_machine = record {
    some = (let s = is.some in let l = are_starts.long in omega arith);
    few = (let s = is.few in let l = are_starts.long in omega arith);
    starts = λ c begin h.
        let l : c < length m.starts = (let g = are_starts.long in omega arith) in
        let x = start_encoded_option c begin l in
        let p = place_below (start_of m c begin) (is.starts c begin l) in
        omega (arith, count, places);
    bytes = is.bytes;
    below = is.below;
    narrow = is.narrow;
    rows = length-map targets decoded_option ∙ are_rows.long ∙ ap (λ n. n * m.width) (places ∙ sym count);
    closed = λ s c t hs hc e.
        let l : s < length states = omega (arith, count, places) in
        let b = all.met.below s l in
        let r : t < state_count m = closed_at t (class_target m (slice_index states s) c)
        (λ u f. is.closed (slice_index states s) c u (omega (arith, long)) hc f) (sym (target_place s c l hc) ∙ e) in
        omega (arith, count);
    states = (let s = is.states in omega (arith, count));
    rules = λ s r e. let l = accepts_below s r e in omega arith;
  }

  -- the new order distinguishes the same states
  moved_same : (o p : Option ℕ) → IsThere o → IsThere p → encoded_option_of encoded_options o ≡ encoded_option_of encoded_options p → o ≡ p
  moved_same None None h g e = refl
  moved_same None (Some u) h g e = absurd (has_encoded_option u (g u refl) (sym e))
  moved_same (Some u) None h g e = absurd (has_encoded_option u (h u refl) e)
  moved_same (Some u) (Some v) h g e = ap (λ k. Some k) (sym (state_at u (h u refl)) ∙ ap (λ k. slice_index states (k - 1)) e ∙ state_at v (g v refl))

  pub reordered_classes : HasByteClasses q
  reordered_classes = record {
    numbered = has.numbered;
    different = λ c d hc hd like. has.different c d hc hd (λ s h.
        let p = place_below s h in
        let n = has_encoded_option s h in
        let e : moved (class_target m s c) ≡ moved (class_target m s d) =
        sym (target_state s c h hc) ∙ like (slice_index encoded_options s - 1) (omega (arith, count, places)) ∙ target_state s d h hd in
        moved_same (class_target m s c) (class_target m s d) (λ t f. is.closed s c t h hc f) (λ t f. is.closed s d t h hd f) (decoded_option-same _ _ e));
  }

  -- so the answers are those of the automaton, if they are rules of a specification
  module _ (spec : PlainSpec) (of : IsAutomatonOf spec m) (same : rules ≡ length spec.rules) where
    same_answer : (c : ℕ) (begin : Bool) (w : List ℕ) → c < length m.starts → All (λ b. b < 256) w → answer q c begin w ≡ answer m c begin w
    same_answer c begin w h bytes =
        let n = of.conditions in
        answers_below c begin w h bytes ∙ ap (λ k. rule_below k (answer m c begin w)) same
        ∙ answer_kept spec c begin w (answer m c begin w) (of.answers c begin w (omega arith) bytes)

    pub reordered_alike : AreEquivalentMachines m q
    reordered_alike = record { answers = same_answer }

    pub reordered_automaton : IsAutomatonOf spec q
    reordered_automaton = record {
      conditions = are_starts.long ∙ of.conditions;
      answers = λ c begin w h bytes.
          let n = of.conditions in
          subst (IsAnswer spec c begin w) (sym (same_answer c begin w (omega arith) bytes)) (of.answers c begin w h bytes);
    }
