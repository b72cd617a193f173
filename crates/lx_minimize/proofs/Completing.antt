-- The completion of an automaton, out of its encoded lists.
use Rattle.std.proofs.Common.{◌≡◌, ℕ, ◌+◌, ◌-◌, ◌*◌, ◌<◌, Some, List, ◌∷◌, ◌++◌, length, map, replicate, slice_index, refl, sym, ◌∙◌, ap, subst, arith, inl, inr, add-one, length-append}
use Rattle.std.proofs.lemmas.Bool.{cases_eq}
use Rattle.std.proofs.lemmas.List.{get_or_append_left, get_or-append_right, get_or-replicate, length-replicate, length-map}
use Rattle.lx_automaton.specs.Automata.{Machine, IsMachine, state_count}
use Rattle.lx_automaton.specs.EncodedOptions.{decoded_option, machine_of}
use Rattle.lx_minimize.specs.Completion.{total, label_of, step_of, IsComplete, IsCompletion}
use Rattle.lx_minimize.specs.declared.complete.Complete.{Complete}
use Rattle.lx_automaton.proofs.RowMajor.{suc_row}
use Rattle.lx_automaton.proofs.EncodedLists.{decoded_at, decoded_option-some}

pub encoded_below : (n encoded : ℕ) → ((t : ℕ) → decoded_option encoded ≡ Some t → t < n) → encoded < n + 1
encoded_below n encoded f = elim (cases_eq encoded 0) [
  | inl e ↦ omega arith
  | inr ne ↦ let b = f (encoded - 1) (decoded_option-some encoded ne) in omega arith
]

module _ (starts : List (ℕ × ℕ)) (classes : List ℕ) (width : ℕ) (accepted targets : List ℕ) (m : Complete)
    (is : IsMachine (machine_of starts classes width accepted targets)) (same_width : m.width ≡ width)
    (next : m.next.items ≡ replicate width 0 ++ targets) (labels : m.labels.items ≡ 0 ∷ accepted) where
  count : length accepted ≡ state_count (machine_of starts classes width accepted targets)
  count = sym (length-map accepted decoded_option)

  states : total m ≡ length accepted + 1
  states = rw labels (sym (add-one (length accepted)))

  long : length targets ≡ length accepted * width
  long = sym (length-map targets decoded_option) ∙ is.rows ∙ ap (λ n. n * width) (sym count)

  label_after : (s : ℕ) → label_of m (s + 1) ≡ slice_index accepted s
  label_after s = rw (labels, add-one) refl

  step_after : (s c : ℕ) → step_of m (s + 1) c ≡ slice_index targets (s * width + c)
  step_after s c =
      let r = suc_row s width in
      let i : (s + 1) * width + c - width ≡ s * width + c = omega arith in
      rw (same_width, next) (get_or-append_right (replicate width 0) targets width ((s + 1) * width + c) 0 (length-replicate width 0) (omega arith)
      ∙ ap (λ k. slice_index targets k) i)

  step_first : (c : ℕ) → c < width → step_of m 0 c ≡ 0
  step_first c h =
      let i : 0 * width + c ≡ c = omega arith in
      rw (same_width, next, i) (get_or_append_left (replicate width 0) targets 0 c (let l = length-replicate {A = ℕ} width 0 in omega arith) ∙ get_or-replicate width c 0 0 h)

  closed_after : (s c : ℕ) → s < length accepted → c < width → step_of m (s + 1) c < total m
  closed_after s c hs hc =
      rw (step_after s c, states) (encoded_below (length accepted) (slice_index targets (s * width + c))
      (λ t e. let b = is.closed s c t (rw (← count) hs) hc (decoded_at targets (s * width + c) ∙ e) in omega (arith, count)))

  closed : (s c : ℕ) → s < total m → c < width → step_of m s c < total m
  closed s c hs hc = elim (cases_eq s 0) [
    | inl e ↦ rw (e, step_first c hc, states) (omega arith)
    | inr ne ↦ let e : s ≡ s - 1 + 1 = omega arith in
        subst (λ x. step_of m x c < total m) (sym e) (closed_after (s - 1) c (omega (arith, states)) hc)
  ]

  complete : IsComplete m
  complete = record {
    rows = (let r = suc_row (length accepted) width in
        let a : length m.next.items ≡ width + length targets = rw next (length-append (replicate width 0) targets ∙ ap (λ n. n + length targets) (length-replicate width 0)) in
        a ∙ rw (states, same_width) (omega (arith, long)));
    closed = λ s c hs hc. closed s c hs (rw same_width at hc);
    some = omega (arith, states);
    small = (let s = is.states in omega (arith, states, count));
    narrow = rw same_width is.narrow;
    unlabelled = rw labels refl;
    stays = λ c h. step_first c (rw same_width at h);
  }

  pub completion : IsCompletion (machine_of starts classes width accepted targets) m
  completion = record {
    complete = complete;
    width = same_width;
    states = states ∙ ap (λ n. n + 1) count;
    labels = λ s h. ap decoded_option (label_after s) ∙ sym (decoded_at accepted s);
    steps = λ s c hs hc. ap decoded_option (step_after s c) ∙ sym (decoded_at targets (s * width + c));
  }

pub completion_of_lists : (a : Machine) (accepted targets : List ℕ) (m : Complete) → IsMachine a → map decoded_option accepted ≡ a.accepted →
    map decoded_option targets ≡ a.targets → m.width ≡ a.width → m.next.items ≡ replicate a.width 0 ++ targets → m.labels.items ≡ 0 ∷ accepted → IsCompletion a m
completion_of_lists a accepted targets m is e f width next labels =
    let same : machine_of a.starts a.classes a.width accepted targets ≡ a = rw (e, f) refl in
    subst (λ q. IsCompletion q m) same (completion a.starts a.classes a.width accepted targets m (subst IsMachine (sym same) is) width next labels)
