-- The rows over byte classes, and the automaton that they make.
use Rattle.std.proofs.Common.{◌≡◌, ℕ, ◌+◌, ◌*◌, ◌<◌, List, [], ◌∷◌, ◌++◌, length, map, slice_index, refl, sym, ◌∙◌, subst, arith, inl, inr}
use Rattle.std.proofs.lemmas.Bool.{cases_lt}
use Rattle.std.proofs.lemmas.List.{get_or_append_left, get_or_push, length_push, length-map}
use Rattle.lx_automaton.specs.Automata.{Machine, IsMachine, HasByteClasses, HasSameSteps, state_count, class_target}
use Rattle.lx_automaton.specs.EncodedOptions.{decoded_option, machine_of}
use Rattle.lx_automaton.specs.Classing.{AreNumbersBelow, AreRows}
use Rattle.lx_automaton.proofs.RowMajor.{in_row, same_row}
use Rattle.lx_automaton.proofs.EncodedLists.{decoded_at}

pub row_push : (m : Machine) (rs encoded : List ℕ) (s j x : ℕ) → AreRows m rs encoded (s * length rs + j) → j < length rs →
    decoded_option x ≡ class_target m s (slice_index rs j) → AreRows m rs (encoded ++ x ∷ []) (s * length rs + (j + 1))
row_push m rs encoded s j x are l e = record {
  long = (let a = length_push encoded x in let b = are.long in omega arith);
  each = λ t k hk h. elim (cases_lt (t * length rs + k) (s * length rs + j)) [
    | inl i ↦ rw (get_or_append_left encoded (x ∷ []) 0 (t * length rs + k) (let b = are.long in omega arith)) (are.each t k hk i)
    | inr i ↦ let n : t * length rs + k ≡ s * length rs + j = omega arith in
        let r = same_row t s k j (length rs) hk l n in
        rw (get_or_push encoded x 0 (t * length rs + k) (are.long ∙ sym n)) (rw (r.0, r.1) e)
  ];
}

module _ (m : Machine) (ns rs encoded : List ℕ) (is : IsMachine m) (are : AreNumbersBelow m 256 ns rs) (rows : AreRows m rs encoded (state_count m * length rs)) where
  abbrev classed : Machine
  classed = record { starts = m.starts; classes = ns; width = length rs; accepted = m.accepted; targets = map decoded_option encoded }

  column : (s j : ℕ) → s < state_count m → j < length rs → class_target classed s j ≡ class_target m s (slice_index rs j)
  column s j hs hj = decoded_at encoded (s * length rs + j) ∙ rows.each s j hj (in_row s j (state_count m) (length rs) hs hj)

  is_machine : IsMachine classed
  is_machine = record {
    some = is.some;
    few = is.few;
    starts = is.starts;
    bytes = are.long;
    below = λ b h. (are.each b h).below;
    narrow = are.few;
    rows = length-map encoded decoded_option ∙ rows.long;
    closed = λ s j t hs hj e. is.closed s (slice_index rs j) t hs (are.classes j hj) (sym (column s j hs hj) ∙ e);
    states = is.states;
    rules = is.rules;
  }

  has_classes : HasByteClasses classed
  has_classes = record {
    numbered = are.numbered;
    different = λ c d hc hd same. are.apart c d hc hd (record { same = λ s l. sym (column s c l hc) ∙ same s l ∙ column s d l hd });
  }

  same_steps : HasSameSteps m classed
  same_steps = record {
    starts = refl;
    accepted = refl;
    steps = λ s b hs hb. let has = are.each b hb in column s (slice_index ns b) hs has.below ∙ has.columns.same s hs;
  }

  module _ (starts : List (ℕ × ℕ)) (accepted : List ℕ) (width : ℕ) (e : starts ≡ m.starts) (f : map decoded_option accepted ≡ m.accepted) (g : width ≡ length rs) where
    is_classed : classed ≡ machine_of starts ns width accepted encoded
    is_classed = rw (← e, ← f, ← g) refl

    pub classed_machine : IsMachine (machine_of starts ns width accepted encoded)
    classed_machine = subst IsMachine is_classed is_machine

    pub classed_classes : HasByteClasses (machine_of starts ns width accepted encoded)
    classed_classes = subst HasByteClasses is_classed has_classes

    pub classed_steps : HasSameSteps m (machine_of starts ns width accepted encoded)
    classed_steps = subst (HasSameSteps m) is_classed same_steps
