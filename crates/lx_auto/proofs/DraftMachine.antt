-- The draft over labels of the sets is an automaton in memory: a start accepts nothing, and the state of a set accepts the set's label.
use Rattle.std.proofs.Common.{◌≡◌, ℕ, zero, suc, ◌+◌, ◌-◌, ◌*◌, ◌/◌, ◌%◌, ◌<◌, ◌≤◌, inl, inr, List, Option, Some, None, length, get_or, sym, ◌∙◌, ap, subst, arith}
use Rattle.std.specs.Prelude.{slice_index, slice_index_or, replicate, IfSome}
use Rattle.std.specs.Option.{option_map}
use Rattle.std.proofs.lemmas.Bool.{cases_lt}
use Rattle.std.proofs.lemmas.List.{length-append, length-map, length-replicate, get_or_append_left, get_or-append_right, get_or-replicate, get_or_past}
use Rattle.std.proofs.lemmas.Nat.{div-add-mod', mod_below}
use Rattle.std.proofs.Math.ListN as math
use Rattle.lx_rules.specs.Plain.{PlainSpec}
use Rattle.lx_automaton.specs.Automata.{Machine, IsMachine, state_count, accepted_by, class_target}
use Rattle.lx_auto.specs.Drafting.{AreAllBelow, IsDrafted}
use Rattle.lx_auto.specs.Exploring.{IsExplored, start_count}
use Rattle.lx_auto.specs.Leaves.{PlainLeaf, AreGroupsOf}
use Rattle.lx_auto.specs.SetTable.{Positions, IsTarget}
use Rattle.lx_auto.specs.Simplified.{simplified_pattern}
use Rattle.lx_auto.proofs.Drafted.{start_below}
use Rattle.lx_automaton.proofs.RowMajor.{in_row}

module _ (spec : PlainSpec) (leaves : List PlainLeaf) (classes representatives : List ℕ) (sets : List Positions) (labels targets : List (Option ℕ))
    (groups : AreGroupsOf leaves classes representatives)
    (explored : IsExplored spec (simplified_pattern spec.definitions) leaves representatives sets targets (start_count spec + length sets))
    (long : length labels ≡ length sets) where
  -- each set that a step leads to is there
  pub targets_below : (n : ℕ) → length sets ≤ n → AreAllBelow targets n
  targets_below n most i h =
      let have = explored.steps.long in
      let width = length representatives in
      let wide : 0 < width = some_width i (start_count spec + length sets) width (omega arith) in
      let parts : i / width * width + i % width ≡ i = div-add-mod' i width in
      let class : i % width < width = mod_below i width wide in
      let step = (explored.steps.each (i / width) (i % width) class (omega arith)).2 in
      subst (λ k. IfSome (slice_index_or targets k None) (λ j. j < n)) parts (by (slice_index_or targets (i / width * width + i % width) None) _ step)
    where
      some_width : (k rows w : ℕ) → k < rows * w → 0 < w
      some_width k rows zero l = let z : rows * 0 ≡ 0 = omega arith in absurd (omega arith)
      some_width k rows (suc w) l = omega arith

      by : (o : Option ℕ) (S : List ℕ) → IsTarget sets o S → IfSome o (λ j. j < n)
      by None S t = tt
      by (Some j) S t = let l = t.1 in omega arith

  module _ (m : Machine) (draft : IsDrafted (length spec.conditions) classes (length representatives) labels targets m) where
    pub state_count_is : state_count m ≡ start_count spec + length sets
    state_count_is =
        ap length draft.accepted_are ∙ length-append (replicate (2 * length spec.conditions) None) labels
        ∙ ap (λ n. n + length labels) (length-replicate (2 * length spec.conditions) None) ∙ ap (λ n. start_count spec + n) long

    pub accepted_start : (s : ℕ) → s < start_count spec → accepted_by m s ≡ None
    accepted_start s h =
        let starts = length-replicate {A = Option ℕ} (2 * length spec.conditions) None in
        ap (λ (xs : List (Option ℕ)). slice_index_or xs s None) draft.accepted_are
        ∙ get_or_append_left (replicate (2 * length spec.conditions) None) labels None s (omega arith) ∙ get_or-replicate (2 * length spec.conditions) s None None h

    pub accepted_set : (j : ℕ) → accepted_by m (start_count spec + j) ≡ slice_index_or labels j None
    accepted_set j =
        let starts = length-replicate {A = Option ℕ} (2 * length spec.conditions) None in
        let behind : start_count spec + j - 2 * length spec.conditions ≡ j = omega arith in
        ap (λ (xs : List (Option ℕ)). slice_index_or xs (start_count spec + j) None) draft.accepted_are
        ∙ get_or-append_right (replicate (2 * length spec.conditions) None) labels (2 * length spec.conditions) (start_count spec + j) None starts (omega arith)
        ∙ ap (λ i. get_or labels i None) behind

    -- each accepted rule is below the bound of the labels
    label_below : (n : ℕ) → AreAllBelow labels n → (s r : ℕ) → accepted_by m s ≡ Some r → r < n
    label_below n below s r e = elim (cases_lt s (start_count spec)) [
      | inl low ↦ absurd (let f : None ≡ Some r = sym (accepted_start s low) ∙ e in cc)
      | inr high ↦
          let j = s - start_count spec in
          let at : s ≡ start_count spec + j = omega arith in
          let is : slice_index_or labels j None ≡ Some r = sym (accepted_set j) ∙ ap (λ x. accepted_by m x) (sym at) ∙ e in
          elim (cases_lt j (length labels)) [
            | inl inside ↦ by (slice_index_or labels j None) (below j inside) is
            | inr past ↦ absurd (let f : None ≡ Some r = sym (get_or_past labels j None past) ∙ is in cc)
          ]
    ]
      where
        by : (o : Option ℕ) → IfSome o (λ k. k < n) → o ≡ Some r → r < n
        by None h f = absurd (cc)
        by (Some k) h f = let same : k ≡ r = (cc) in omega arith

    -- a step leads to a state
    step_below : (s class t : ℕ) → s < start_count spec + length sets → class < length representatives → class_target m s class ≡ Some t → t < start_count spec + length sets
    step_below s class t hs hc e =
        let known = explored.steps.each s class hc (in_row s class (start_count spec + length sets) (length representatives) hs hc) in
        by (slice_index_or targets (s * length representatives + class) None) _ known.2 (sym is ∙ e)
      where
        is : class_target m s class ≡ option_map (λ j. 2 * length spec.conditions + j) (slice_index_or targets (s * length representatives + class) None)
        is =
            ap (λ (w : ℕ). slice_index_or m.targets (s * w + class) None) draft.width_is
            ∙ ap (λ (xs : List (Option ℕ)). slice_index_or xs (s * length representatives + class) None) draft.targets_are
            ∙ math.get_or-map (option_map (λ j. 2 * length spec.conditions + j)) targets (s * length representatives + class) None

        by : (o : Option ℕ) → (S : List ℕ) → IsTarget sets o S → option_map (λ j. 2 * length spec.conditions + j) o ≡ Some t → t < start_count spec + length sets
        by None S target f = absurd (cc)
        by (Some j) S target f = let g : 2 * length spec.conditions + j ≡ t = (cc) in let l = target.1 in omega arith

    pub draft_machine : 0 < length spec.conditions → length spec.conditions ≤ 64 → AreAllBelow labels 4096 → length sets ≤ 16384 → IsMachine m
    draft_machine some few below few_sets = record {
      some = let e = draft.conditions_are in omega arith;
      few = let e = draft.conditions_are in omega arith;
      starts = λ c begin h.
          let e = draft.conditions_are in
          let l : c < length spec.conditions = omega arith in
          let f = draft.starts_are c begin l in
          let g = start_below c begin (length spec.conditions) l in
          let n = state_count_is in
          omega arith;
      bytes = ap length draft.classes_are ∙ groups.bytes;
      below = λ b h.
          subst (λ (w : ℕ). slice_index m.classes b < w) (sym draft.width_is)
          (subst (λ (xs : List ℕ). slice_index xs b < length representatives) (sym draft.classes_are) (groups.below b h));
      narrow = let w = draft.width_is in let f = groups.few in omega arith;
      rows =
          ap length draft.targets_are ∙ length-map targets (option_map (λ j. 2 * length spec.conditions + j)) ∙ explored.steps.long
          ∙ ap (λ n. n * length representatives) (sym state_count_is) ∙ ap (λ w. state_count m * w) (sym draft.width_is);
      closed = λ s class t hs hc e.
          let n = state_count_is in
          let w = draft.width_is in
          let l = step_below s class t (omega arith) (omega arith) e in
          omega arith;
      states = let n = state_count_is in omega arith;
      rules = λ s r e. label_below 4096 below s r e;
    }
