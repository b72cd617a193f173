-- The facts that the automaton of the blocks keeps over byte classes, and its small number of states.
use Rattle.std.proofs.Common.{◌≡◌, ◌≢◌, ℕ, ◌+◌, ◌*◌, ◌<◌, ◌≤◌, Bool, true, false, Option, Some, List, [], ◌∷◌, ◌++◌, length, slice_index, slice_index_or, slice_set, get_or, refl, sym, ◌∙◌, ap, subst, arith, inl, inr, eqb, if◌then◌else◌}
use Rattle.std.proofs.lemmas.Bool.{cases_lt, cases_eq}
use Rattle.std.proofs.lemmas.List.{get_or_append_left, get_or_push, length_push, length-set, get_or-set_same, get_or-set_other, get_or_default}
use Rattle.std.proofs.lemmas.Map.Steps.{length-le_from_distinct_below}
use Rattle.std.proofs.lemmas.Map.Keys.{IsDistinct-from_apart}
use Rattle.lx_rules.specs.Plain.{PlainSpec}
use Rattle.lx_automaton.specs.Automata.{Machine, IsMachine, HasSameSteps, state_count, start_of, target_of}
use Rattle.lx_automaton.specs.Equivalence.{AreEquivalentMachines, IsMinimal, HasLiveSteps}
use Rattle.lx_automaton.specs.Automata.{HasByteClasses}
use Rattle.lx_automaton.specs.Meaning.{IsAnswer, IsAutomatonOf}
use Rattle.lx_automaton.specs.EncodedOptions.{machine_of}
use Rattle.lx_automaton.specs.Leading.{AreAllLedTo}
use Rattle.lx_minimize.specs.Completion.{total, IsCompletion}
use Rattle.lx_minimize.specs.Partitions.{block, block_count, member_of, IsSound, IsStable}
use Rattle.lx_minimize.specs.Quotients.{AreStates, AreStarts, HaveNoDeadStart, HasDeadStart, AreRowStates, AreLabels, AreTargets}
use Rattle.lx_minimize.specs.declared.complete.Complete.{Complete}
use Rattle.lx_minimize.specs.declared.partition.Partition.{Partition}
use Rattle.lx_automaton.proofs.EncodedLists.{different}
use Rattle.lx_automaton.proofs.Members.{below_from_any}
use Rattle.lx_automaton.proofs.SameAnswers.{same_count, same_answer, same_answers}
use Rattle.lx_minimize.proofs.Splits.{blocks_at_most}
use Rattle.lx_minimize.proofs.Quotients.{q, is_machine, quotient_answers, quotient_distinguishable, quotient_live, quotient_led}

module _ (q r : Machine) (is : IsMachine q) (same_steps : HasSameSteps q r) where
  pub kept_answers : (a : Machine) → length q.starts ≡ length a.starts → AreEquivalentMachines a q → AreEquivalentMachines a r
  kept_answers a e old = record { answers = λ c begin v h all. same_answers q r is same_steps c begin v (omega arith) all ∙ old.answers c begin v h all }

  pub kept_minimal : IsMinimal q → IsMinimal r
  kept_minimal old = record {
    distinguishable = λ s t hs ht ne.
        let ls : s < state_count q = omega (arith, same_count q r same_steps) in
        let lt : t < state_count q = omega (arith, same_count q r same_steps) in
        let d = old.distinguishable s t ls lt ne in
        record { word = d.word; bytes = d.bytes; differ = λ e. d.differ (sym (same_answer q r is same_steps d.word s ls d.bytes) ∙ e ∙ same_answer q r is same_steps d.word t lt d.bytes) };
  }

  pub kept_live : HasLiveSteps q → HasLiveSteps r
  kept_live old = record {
    live = λ s b t hs hb e.
        let ls : s < state_count q = omega (arith, same_count q r same_steps) in
        let f : target_of q s b ≡ Some t = sym (same_steps.steps s b ls hb) ∙ e in
        let d = old.live s b t ls hb f in
        let lt = is.closed s (slice_index q.classes b) t ls (is.below b hb) f in
        record { word = d.word; bytes = d.bytes; accepts = λ g. d.accepts (sym (same_answer q r is same_steps d.word t lt d.bytes) ∙ g) };
  }

-- if a start is in block 0, that block has two states, so there are fewer blocks than states
module _ (m : Complete) (p : Partition) (sound : IsSound m p) (s : ℕ) (hs : s + 1 < total m) (dead : block p (s + 1) ≡ 0) where
  abbrev members : List ℕ
  members = slice_set p.representatives.items 0 (s + 1)

  long : length members ≡ block_count p
  long = length-set p.representatives.items 0 (s + 1)

  some : 0 < block_count p
  some = (let b = sound.below (s + 1) hs in omega arith)

  slot : (i : ℕ) → i < block_count p → (slice_index members i < total m) × ((block p (slice_index members i) ≡ i) × (slice_index members i ≢ 0))
  slot i h = elim (cases_eq i 0) [
    | inl e ↦ let v : slice_index members i ≡ s + 1 = ap (λ k. slice_index members k) e ∙ get_or-set_same p.representatives.items 0 (s + 1) 0 some in
        rw v (hs, (dead ∙ sym e, (λ z. omega arith)))
    | inr ne ↦ let v : slice_index members i ≡ member_of p i = get_or-set_other p.representatives.items 0 i (s + 1) 0 ne in
        let w = sound.within i h in
        rw v (sound.member i h, (w, (λ z. ne (sym w ∙ ap (λ x. block p x) z ∙ sound.first))))
  ]

  abbrev all_members : List ℕ
  all_members = members ++ 0 ∷ []

  all_long : length all_members ≡ block_count p + 1
  all_long = length_push members 0 ∙ ap (λ n. n + 1) long

  at_front : (i : ℕ) → i < block_count p → slice_index all_members i ≡ slice_index members i
  at_front i h = get_or_append_left members (0 ∷ []) 0 i (omega (arith, long))

  at_end : slice_index all_members (block_count p) ≡ 0
  at_end = get_or_push members 0 0 (block_count p) long

  apart : (i j : ℕ) → i < j → j < length all_members → slice_index all_members i ≢ slice_index all_members j
  apart i j l h e =
      let hi : i < block_count p = omega (arith, all_long) in
      let x = slot i hi in
      elim (cases_lt j (block_count p)) [
        | inl k ↦ let y = slot j k in
            let f : slice_index members i ≡ slice_index members j = sym (at_front i hi) ∙ e ∙ at_front j k in
            let g : i ≡ j = sym x.1.0 ∙ ap (λ z. block p z) f ∙ y.1.0 in
            omega arith
        | inr k ↦ let n : j ≡ block_count p = omega (arith, all_long) in
            x.1.1 (sym (at_front i hi) ∙ e ∙ ap (λ k. slice_index all_members k) n ∙ at_end)
      ]

  pub fewer_blocks : block_count p + 1 ≤ total m
  fewer_blocks =
      let l = length-le_from_distinct_below all_members (total m)
      (IsDistinct-from_apart eqb all_members (λ i j d l h.
      let hi : i < length all_members = omega arith in
      different (get_or all_members i d) (get_or all_members j d) (λ e.
      apart i j l h (sym (get_or_default all_members i d 0 hi) ∙ e ∙ get_or_default all_members j d 0 h))))
      (λ x h. below_from_any all_members (total m) x h (λ i l. elim (cases_lt i (block_count p)) [
        | inl k ↦ rw (at_front i k) (slot i k).0
        | inr k ↦ let n : i ≡ block_count p = omega (arith, all_long) in rw (n, at_end) (omega arith)
      ])) in
      omega (arith, all_long)

pub start_states : (a : Machine) (m : Complete) (starts : List (ℕ × ℕ)) → IsMachine a → IsCompletion a m → starts ≡ a.starts → AreStates m starts
start_states a m starts is completion e = rw e (λ c h.
    let n = completion.states in
    let x : (slice_index_or a.starts c (0, 0)).0 < state_count a = is.starts c false h in
    let y : (slice_index_or a.starts c (0, 0)).1 < state_count a = is.starts c true h in
    (omega arith, omega arith))

module _ (a : Machine) (m : Complete) (p : Partition) (starts : List (ℕ × ℕ)) (classes : List ℕ) (width : ℕ) (rows labels targets : List ℕ) (dead : Bool)
    (is : IsMachine a) (has : HasByteClasses a) (completion : IsCompletion a m) (sound : IsSound m p) (stable : IsStable m p)
    (are_starts : AreStarts p a.starts starts (length a.starts)) (are_rows : AreRowStates p rows)
    (are_labels : AreLabels m rows labels (length rows)) (are_targets : AreTargets m p rows targets (length rows * m.width))
    (rows_long : length rows + (if dead then 0 else 1) ≡ block_count p)
    (is_dead : dead ≡ true → HasDeadStart p a.starts) (isnt_dead : dead ≡ false → HaveNoDeadStart p a.starts (length a.starts))
    (same_classes : classes ≡ a.classes) (same_width : width ≡ a.width) where
  few_rows : (d : Bool) → (d ≡ true → HasDeadStart p a.starts) → length rows + (if d then 0 else 1) ≡ block_count p → length rows ≤ 16512
  few_rows true f e =
      let d = f refl in
      let n = completion.states in
      let k = is.states in
      let below : d.state < state_count a = elim d.begins [
        | inl x ↦ subst (λ s. s < state_count a) x (is.starts d.condition false d.below)
        | inr x ↦ subst (λ s. s < state_count a) x (is.starts d.condition true d.below)
      ] in
      let g = fewer_blocks m p sound d.state (omega arith) d.dead in
      omega arith
  few_rows false f e =
      let n = completion.states in
      let k = is.states in
      omega (arith, blocks_at_most m p sound)

  has_state : (d : Bool) → (d ≡ false → HaveNoDeadStart p a.starts (length a.starts)) → length rows + (if d then 0 else 1) ≡ block_count p →
      (c : ℕ) (begin : Bool) → c < length a.starts → block p (start_of a c begin + 1) ≡ 0 → block_count p ≤ length rows
  has_state true f e c begin h z = omega arith
  has_state false f e c true h z = absurd ((f refl).at_begin c h z)
  has_state false f e c false h z = absurd ((f refl).elsewhere c h z)

  has_dead : (d : Bool) → (d ≡ true → HasDeadStart p a.starts) → length rows + (if d then 0 else 1) ≡ block_count p → block_count p ≤ length rows → HasDeadStart p a.starts
  has_dead true f e l = f refl
  has_dead false f e l = absurd (omega arith)

  abbrev made : Machine
  made = q a m p starts rows labels targets is has completion sound stable are_starts are_rows are_labels are_targets (has_state dead isnt_dead rows_long) (few_rows dead is_dead rows_long)

  is_made : made ≡ machine_of starts classes width labels targets
  is_made = rw (← same_classes, ← same_width) refl

  pub made_machine : IsMachine (machine_of starts classes width labels targets)
  made_machine = subst IsMachine is_made (is_machine a m p starts rows labels targets is has completion sound stable are_starts are_rows are_labels are_targets (has_state dead isnt_dead rows_long) (few_rows dead is_dead rows_long))

  pub made_answers : AreEquivalentMachines a (machine_of starts classes width labels targets)
  made_answers = subst (AreEquivalentMachines a) is_made (quotient_answers a m p starts rows labels targets is has completion sound stable are_starts are_rows are_labels are_targets (has_state dead isnt_dead rows_long) (few_rows dead is_dead rows_long))

  pub made_minimal : IsMinimal (machine_of starts classes width labels targets)
  made_minimal = subst IsMinimal is_made (record { distinguishable = quotient_distinguishable a m p starts rows labels targets is has completion sound stable are_starts are_rows are_labels are_targets (has_state dead isnt_dead rows_long) (few_rows dead is_dead rows_long) })

  pub made_live : HasLiveSteps (machine_of starts classes width labels targets)
  made_live = subst HasLiveSteps is_made (record { live = quotient_live a m p starts rows labels targets is has completion sound stable are_starts are_rows are_labels are_targets (has_state dead isnt_dead rows_long) (few_rows dead is_dead rows_long) })

  pub made_led : AreAllLedTo a → AreAllLedTo (machine_of starts classes width labels targets)
  made_led all = subst AreAllLedTo is_made (quotient_led a m p starts rows labels targets is has completion sound stable are_starts are_rows are_labels are_targets (has_state dead isnt_dead rows_long) (few_rows dead is_dead rows_long) (has_dead dead is_dead rows_long) all)

-- an equivalent automaton is one of the same specification
pub equivalent_of : (spec : PlainSpec) (a m : Machine) → IsAutomatonOf spec a → length m.starts ≡ length a.starts → AreEquivalentMachines a m → IsAutomatonOf spec m
equivalent_of spec a m of starts equivalent = record {
  conditions = starts ∙ of.conditions;
  answers = λ condition begin text known bytes.
      let conditions : length a.starts ≡ length spec.conditions = of.conditions in
      subst (λ (found : Option ℕ). IsAnswer spec condition begin text found) (sym (equivalent.answers condition begin text (omega arith) bytes)) (of.answers condition begin text known bytes);
}
