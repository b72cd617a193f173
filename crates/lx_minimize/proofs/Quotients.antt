-- The automaton of the blocks answers as the automaton does, has no two states alike, steps to live states only, and texts lead to its states as to the automaton's.
use Rattle.std.proofs.Common.{◌≡◌, ◌≢◌, ℕ, ◌+◌, ◌-◌, ◌*◌, ◌<◌, ◌≤◌, Bool, true, false, Some, None, List, [], ◌∷◌, length, map, slice_index, All, refl, sym, ◌∙◌, ap, subst, arith, inl, inr, ◌⊎◌}
use Rattle.std.proofs.lemmas.Bool.{cases_lt, cases_eq}
use Rattle.std.proofs.lemmas.List.{length-map, get_or_past}
use Rattle.std.proofs.lemmas.List.Elements.{All-head, All-tail}
use Rattle.lx_automaton.specs.Automata.{Machine, IsMachine, HasByteClasses, state_count, start_of, accepted_by, class_target, target_of, answer_from, answer}
use Rattle.lx_automaton.specs.EncodedOptions.{decoded_option}
use Rattle.lx_automaton.specs.Equivalence.{AreDistinguishable, IsLive, AreEquivalentMachines}
use Rattle.lx_automaton.specs.Leading.{IsLedTo, AreAllLedTo}
use Rattle.lx_minimize.specs.Completion.{total, label_of, step_of, after, IsComplete, IsCompletion}
use Rattle.lx_minimize.specs.Partitions.{block, block_count, IsSound, IsStable}
use Rattle.lx_minimize.specs.Quotients.{number_of, AreStarts, HasDeadStart, AreRowStates, AreLabels, AreTargets}
use Rattle.lx_minimize.specs.Simulations.{Simulates}
use Rattle.lx_minimize.specs.declared.complete.Complete.{Complete}
use Rattle.lx_minimize.specs.declared.partition.Partition.{Partition}
use Rattle.lx_automaton.proofs.RowMajor.{in_row}
use Rattle.lx_automaton.proofs.EncodedLists.{decoded_at, decoded_option-some}
use Rattle.lx_automaton.proofs.SameAnswers.{answer_at}
use Rattle.lx_minimize.proofs.LedBlocks.{number_dead, number_live, led_state, led_dead_start}
use Rattle.lx_minimize.proofs.Simulating.{classes_of, answered, decoded_option-same, simulates_itself, spelled}

module _ (a : Machine) (m : Complete) (p : Partition) (starts : List (ℕ × ℕ)) (rows labels targets : List ℕ)
    (is : IsMachine a) (has : HasByteClasses a) (completion : IsCompletion a m) (sound : IsSound m p) (stable : IsStable m p)
    (are_starts : AreStarts p a.starts starts (length a.starts)) (are_rows : AreRowStates p rows)
    (are_labels : AreLabels m rows labels (length rows)) (are_targets : AreTargets m p rows targets (length rows * m.width))
    -- a start in block 0 has a state
    (begins : (c : ℕ) (begin : Bool) → c < length a.starts → block p (start_of a c begin + 1) ≡ 0 → block_count p ≤ length rows)
    (few : length rows ≤ 16512) where
  abbrev complete : IsComplete m
  complete = completion.complete

  abbrev pub q : Machine
  q = record { starts = starts; classes = a.classes; width = a.width; accepted = map decoded_option labels; targets = map decoded_option targets }

  count : state_count q ≡ length rows
  count = length-map labels decoded_option ∙ are_labels.long

  blocks : 0 < block_count p
  blocks = (let b = sound.below 0 complete.some in omega arith)

  accepted_row : (i : ℕ) → i < length rows → accepted_by q i ≡ decoded_option (label_of m (slice_index rows i))
  accepted_row i h = decoded_at labels i ∙ ap decoded_option (are_labels.each i h)

  target_row : (i c : ℕ) → i < length rows → c < m.width → class_target q i c ≡ decoded_option (block p (step_of m (slice_index rows i) c))
  target_row i c hi hc =
      let w = completion.width in
      decoded_at targets (i * a.width + c) ∙ ap (λ n. decoded_option (slice_index targets (i * n + c))) (sym w)
      ∙ ap decoded_option (are_targets.each i c hc (in_row i c (length rows) m.width hi hc))

  -- the block of a state of the quotient
  row_block : (i : ℕ) → i < length rows → (slice_index rows i < total m) × ((i + 1 < block_count p → block p (slice_index rows i) ≡ i + 1) × (i + 1 ≡ block_count p → slice_index rows i ≡ 0))
  row_block i h = elim (cases_lt (i + 1) (block_count p)) [
    | inl l ↦ let e = are_rows.members i l in
        (rw e (sound.member (i + 1) l), ((λ _. rw e (sound.within (i + 1) l)), (λ f. absurd (omega arith))))
    | inr l ↦ let f = are_rows.few in let n : i + 1 ≡ block_count p = omega arith in let e = are_rows.last i n h in
        (rw e complete.some, ((λ g. absurd (omega arith)), (λ _. e)))
  ]

  simulates : Simulates q m (λ x. block p x)
  simulates = record {
    classes = λ b h. let l = is.below b h in let w = completion.width in omega arith;
    closed = complete.closed;
    no_label = λ x hx e. sound.labels x 0 hx complete.some (e ∙ sym sound.first) ∙ complete.unlabelled;
    no_step = λ x c hx hc e. stable.steps x 0 c hx complete.some hc (e ∙ sym sound.first) ∙ ap (λ y. block p y) (complete.stays c hc) ∙ sound.first;
    labels = λ x hx ne.
        let b = sound.below x hx in
        let many = are_rows.many in
        let i : block p x - 1 < length rows = omega arith in
        let r = row_block (block p x - 1) i in
        accepted_row (block p x - 1) i ∙ ap decoded_option (sound.labels (slice_index rows (block p x - 1)) x r.0 hx (r.1.0 (omega arith) ∙ omega arith));
    steps = λ x c hx hc ne.
        let b = sound.below x hx in
        let many = are_rows.many in
        let i : block p x - 1 < length rows = omega arith in
        let r = row_block (block p x - 1) i in
        target_row (block p x - 1) c i hc ∙ ap decoded_option (stable.steps (slice_index rows (block p x - 1)) x c r.0 hx hc (r.1.0 (omega arith) ∙ omega arith));
  }

  -- from a state that represents state 0 nothing is answered
  dead_answer : (i : ℕ) → i < length rows → slice_index rows i ≡ 0 → (v : List ℕ) → All (λ b. b < 256) v → answer_from q i v ≡ None
  dead_answer i h e [] all = accepted_row i h ∙ ap (λ x. decoded_option (label_of m x)) e ∙ ap decoded_option complete.unlabelled
  dead_answer i h e (b ∷ v) all =
      let hc = simulates.classes b (head b v all) in
      ap (λ o. answer_at q o v) (target_row i (slice_index a.classes b) h hc
      ∙ ap (λ x. decoded_option (block p (step_of m x (slice_index a.classes b)))) e
      ∙ ap (λ x. decoded_option (block p x)) (complete.stays (slice_index a.classes b) hc) ∙ ap decoded_option sound.first)
    where
      head : (b : ℕ) (v : List ℕ) → All (λ b. b < 256) (b ∷ v) → b < 256
      head b v all = All-head (λ b. b < 256) b v all

  row_answer : (i : ℕ) → i < length rows → (v : List ℕ) → All (λ b. b < 256) v →
      answer_from q i v ≡ decoded_option (label_of m (after m (slice_index rows i) (classes_of a v)))
  row_answer i h v all =
      let r = row_block i h in
      let s = answered q m (λ x. block p x) simulates v (slice_index rows i) r.0 all in
      elim (cases_lt (i + 1) (block_count p)) [
        | inl l ↦ let e = r.1.0 l in
            let n : i + 1 - 1 ≡ i = omega arith in
            ap (λ x. answer_from q x v) (sym n) ∙ ap (λ o. answer_at q o v) (sym (decoded_option-some (i + 1) (omega arith)))
            ∙ ap (λ x. answer_at q (decoded_option x) v) (sym e) ∙ s
        | inr l ↦ let f = are_rows.few in
            let e = r.1.1 (omega arith) in
            dead_answer i h e v all ∙ ap (λ x. answer_at q (decoded_option x) v) (sym (ap (λ x. block p x) e ∙ sound.first)) ∙ s
      ]

  start_row : (c : ℕ) (begin : Bool) → c < length a.starts → start_of q c begin ≡ number_of p (block p (start_of a c begin + 1))
  start_row c true h = are_starts.at_begin c h
  start_row c false h = are_starts.elsewhere c h

  in_total : (s : ℕ) → s < state_count a → s + 1 < total m
  in_total s h = let e = completion.states in omega arith

  start_below : (c : ℕ) (begin : Bool) → c < length a.starts → start_of q c begin < length rows
  start_below c begin h =
      let b = block p (start_of a c begin + 1) in
      let many = are_rows.many in
      let l = sound.below (start_of a c begin + 1) (in_total (start_of a c begin) (is.starts c begin h)) in
      elim (cases_eq b 0) [
        | inl e ↦ let n = start_row c begin h ∙ number_dead p b e in let g = begins c begin h e in omega (arith, blocks)
        | inr ne ↦ let n = start_row c begin h ∙ number_live p b ne in omega arith
      ]

  start_answer : (c : ℕ) (begin : Bool) (v : List ℕ) → c < length a.starts → All (λ b. b < 256) v → answer q c begin v ≡ answer a c begin v
  start_answer c begin v h all =
      let s = start_of a c begin in
      let b = block p (s + 1) in
      let hs = in_total s (is.starts c begin h) in
      let x = answered q m (λ x. block p x) simulates v (s + 1) hs all in
      let y = answered a m (λ x. x) (simulates_itself a m is completion) v (s + 1) hs all in
      let one : s + 1 - 1 ≡ s = omega arith in
      let z : answer_at a (decoded_option (s + 1)) v ≡ answer a c begin v =
      ap (λ o. answer_at a o v) (decoded_option-some (s + 1) (omega arith)) ∙ ap (λ k. answer_from a k v) one in
      elim (cases_eq b 0) [
        | inl e ↦ let n = start_row c begin h ∙ number_dead p b e in
            let g = begins c begin h e in
            let f = are_rows.few in
            let i : block_count p - 1 < length rows = omega (arith, blocks) in
            let r = row_block (block_count p - 1) i in
            ap (λ k. answer_from q k v) n ∙ dead_answer (block_count p - 1) i (r.1.1 (omega (arith, blocks))) v all
            ∙ ap (λ k. answer_at q (decoded_option k) v) (sym e) ∙ x ∙ sym y ∙ z
        | inr ne ↦ let n = start_row c begin h ∙ number_live p b ne in
            ap (λ k. answer_from q k v) n ∙ ap (λ o. answer_at q o v) (sym (decoded_option-some b ne)) ∙ x ∙ sym y ∙ z
      ]

  pub quotient_answers : AreEquivalentMachines a q
  quotient_answers = record { answers = λ c begin v h all. start_answer c begin v h all }

  pub quotient_distinguishable : (i j : ℕ) → i < state_count q → j < state_count q → i ≢ j → AreDistinguishable q i j
  quotient_distinguishable i j hi hj ne =
      let li : i < length rows = omega (arith, count) in
      let lj : j < length rows = omega (arith, count) in
      let ri = row_block i li in
      let rj = row_block j lj in
      let d = sound.distinguishable (slice_index rows i) (slice_index rows j) ri.0 rj.0 (λ e. ne (same i j li lj e)) in
      let v = spelled a m.width is has completion.width d.word d.classes in
      record {
        word = v.0;
        bytes = v.1;
        differ = λ e. d.differ (decoded_option-same _ _ (
            ap (λ w. decoded_option (label_of m (after m (slice_index rows i) w))) (sym v.2) ∙ sym (row_answer i li v.0 v.1) ∙ e ∙ row_answer j lj v.0 v.1
            ∙ ap (λ w. decoded_option (label_of m (after m (slice_index rows j) w))) v.2));
      }
    where
      number : (k : ℕ) → k < length rows → ((k + 1 < block_count p) × (block p (slice_index rows k) ≡ k + 1)) ⊎ ((k + 1 ≡ block_count p) × (block p (slice_index rows k) ≡ 0))
      number k h = elim (cases_lt (k + 1) (block_count p)) [
        | inl l ↦ inl (l, (row_block k h).1.0 l)
        | inr l ↦ let f = are_rows.few in let n : k + 1 ≡ block_count p = omega arith in inr (n, ap (λ x. block p x) ((row_block k h).1.1 n) ∙ sound.first)
      ]

      same : (i j : ℕ) → i < length rows → j < length rows → block p (slice_index rows i) ≡ block p (slice_index rows j) → i ≡ j
      same i j hi hj e = elim (number i hi) [
        | inl x ↦ elim (number j hj) [
          | inl y ↦ let f = x.1 in let g = y.1 in omega arith
          | inr y ↦ let f = x.1 in let g = y.1 in absurd (omega arith)
        ]
        | inr x ↦ elim (number j hj) [
          | inl y ↦ let f = x.1 in let g = y.1 in absurd (omega arith)
          | inr y ↦ let f = x.0 in let g = y.0 in omega arith
        ]
      ]

  pub quotient_live : (s b t : ℕ) → s < state_count q → b < 256 → target_of q s b ≡ Some t → IsLive q t
  quotient_live s b t hs hb e =
      let ls : s < length rows = omega (arith, count) in
      let hc = simulates.classes b hb in
      let y = step_of m (slice_index rows s) (slice_index a.classes b) in
      let hy = complete.closed (slice_index rows s) (slice_index a.classes b) (row_block s ls).0 hc in
      let w : decoded_option (block p y) ≡ Some t = sym (target_row s (slice_index a.classes b) ls hc) ∙ e in
      let d = sound.distinguishable y 0 hy complete.some (λ f. none_of (block p y) t w (f ∙ sound.first)) in
      let v = spelled a m.width is has completion.width d.word d.classes in
      let r : answer_from q t v.0 ≡ decoded_option (label_of m (after m y d.word)) =
      ap (λ o. answer_at q o v.0) (sym w) ∙ answered q m (λ x. block p x) simulates v.0 y hy v.1 ∙ ap (λ w. decoded_option (label_of m (after m y w))) v.2 in
      record {
        word = v.0;
        bytes = v.1;
        accepts = λ f. d.differ (decoded_option-same (label_of m (after m y d.word)) (label_of m (after m 0 d.word)) (
            sym r ∙ f ∙ sym (ap (λ x. decoded_option (label_of m x)) (after_first d.word d.classes) ∙ ap decoded_option complete.unlabelled)));
      }
    where
      none_of : (b t : ℕ) → decoded_option b ≡ Some t → b ≢ 0
      none_of b t e f = let g : None ≡ Some t = sym (ap decoded_option f) ∙ e in cc

      after_first : (w : List ℕ) → All (λ c. c < m.width) w → after m 0 w ≡ 0
      after_first [] all = refl
      after_first (c ∷ w) all = ap (λ x. after m x w) (complete.stays c (All-head (λ c. c < m.width) c w all)) ∙ after_first w (All-tail (λ c. c < m.width) c w all)

  pub quotient_led : (block_count p ≤ length rows → HasDeadStart p a.starts) → AreAllLedTo a → AreAllLedTo q
  quotient_led dead all = record {
    each = λ i h.
        let l : i < length rows = omega (arith, count) in
        let x = slice_index rows i in
        let r = row_block i l in
        elim (cases_lt (i + 1) (block_count p)) [
          | inl k ↦ let e = r.1.0 k in
              let ne : x ≢ 0 = λ z. (let f = ap (λ y. block p y) z ∙ sound.first in omega arith) in
              let n = completion.states in
              let t = r.0 in
              let at : block p x - 1 ≡ i = omega arith in
              subst (IsLedTo q) at (led_state a q m p is completion simulates refl are_starts.long start_row x ne (omega arith) (all.each (x - 1) (omega arith)))
          | inr k ↦ let f = are_rows.few in
              let at : block_count p - 1 ≡ i = omega arith in
              subst (IsLedTo q) at (led_dead_start a q m p is completion simulates refl are_starts.long start_row (dead (omega arith)))
        ];
  }

  pub is_machine : IsMachine q
  is_machine = record {
    some = (let s = is.some in let l = are_starts.long in omega arith);
    few = (let s = is.few in let l = are_starts.long in omega arith);
    starts = λ c begin h. let l = start_below c begin (let g = are_starts.long in omega arith) in omega (arith, count);
    bytes = is.bytes;
    below = is.below;
    narrow = is.narrow;
    rows = length-map targets decoded_option ∙ are_targets.long ∙ ap (λ n. length rows * n) completion.width ∙ ap (λ n. n * a.width) (sym count);
    closed = λ s c t hs hc e.
        let ls : s < length rows = omega (arith, count) in
        let hm : c < m.width = (let w = completion.width in omega arith) in
        let y = step_of m (slice_index rows s) c in
        let hy = complete.closed (slice_index rows s) c (row_block s ls).0 hm in
        let b = sound.below y hy in
        let w : decoded_option (block p y) ≡ Some t = sym (target_row s c ls hm) ∙ e in
        let many = are_rows.many in
        let n = one_above (block p y) t w in
        omega (arith, count);
    states = omega (arith, count);
    rules = λ s r e. rule_below s r e;
  }
    where
      one_above : (b t : ℕ) → decoded_option b ≡ Some t → b ≡ t + 1
      one_above b t e = elim (cases_eq b 0) [
        | inl f ↦ let g : None ≡ Some t = sym (ap decoded_option f) ∙ e in cc
        | inr f ↦ let g : Some (b - 1) ≡ Some t = sym (decoded_option-some b f) ∙ e in let k : b - 1 ≡ t = cc in omega arith
      ]

      labelled_below : (x r : ℕ) → x < total m → decoded_option (label_of m x) ≡ Some r → r < 4096
      labelled_below x r h e = elim (cases_eq x 0) [
        | inl f ↦ let g : None ≡ Some r = sym (ap (λ x. decoded_option (label_of m x)) f ∙ ap decoded_option complete.unlabelled) ∙ e in cc
        | inr ne ↦ let i : x ≡ x - 1 + 1 = omega arith in
            let n = completion.states in
            is.rules (x - 1) r (sym (completion.labels (x - 1) (omega arith)) ∙ ap (λ y. decoded_option (label_of m y)) (sym i) ∙ e)
      ]

      rule_below : (s r : ℕ) → accepted_by q s ≡ Some r → r < 4096
      rule_below s r e = elim (cases_lt s (length rows)) [
        | inl l ↦ labelled_below (slice_index rows s) r (row_block s l).0 (sym (accepted_row s l) ∙ e)
        | inr l ↦ let f : None ≡ Some r = sym (get_or_past q.accepted s None (omega (arith, count))) ∙ e in cc
      ]
