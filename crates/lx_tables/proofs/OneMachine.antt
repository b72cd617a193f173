-- Machines with byte classes that step alike are the same.
use Rattle.std.proofs.Common.{ℕ, zero, suc, ◌≡◌, ◌<◌, ◌≤◌, ◌+◌, ◌*◌, List, [], ◌∷◌, ◌++◌, Option, None, length, map, sym, ◌∙◌, ap, ap₂, refl, arith}
use Rattle.std.specs.Prelude.{slice_index, slice_index_or}
use Rattle.std.specs.List.{flat_map, range_with_len}
use Rattle.lx_automaton.specs.Automata.{Machine, IsMachine, HasByteClasses, state_count, class_target, target_of}
use Rattle.lx_tables.proofs.Numbers.{Steps, StepAlike, AlikeBelow, one_numbering}
use Rattle.lx_tables.proofs.RowLists.{rows_are}

-- rows with the same entries
same_row : (f g : ℕ → Option ℕ) (j k : ℕ) → ((c : ℕ) → k ≤ c → c < k + j → f c ≡ g c) → map f (range_with_len k j) ≡ map g (range_with_len k j)
same_row f g zero k h = refl
same_row f g (suc j) k h = ap₂ (λ (x : Option ℕ) (xs : List (Option ℕ)). x ∷ xs) (h k (omega arith) (omega arith)) (same_row f g j (k + 1) (λ c a b. h c (omega arith) (omega arith)))

same_rows : (f g : ℕ → ℕ → Option ℕ) (w j k : ℕ) → ((s c : ℕ) → k ≤ s → s < k + j → c < w → f s c ≡ g s c) →
    flat_map (λ s. map (f s) (range_with_len 0 w)) (range_with_len k j) ≡ flat_map (λ s. map (g s) (range_with_len 0 w)) (range_with_len k j)
same_rows f g w zero k h = refl
same_rows f g w (suc j) k h =
    ap₂ (λ (xs ys : List (Option ℕ)). xs ++ ys) (same_row (f k) (g k) w 0 (λ c a b. h k c (omega arith) (omega arith) (omega arith)))
    (same_rows f g w j (k + 1) (λ s c a b l. h s c (omega arith) (omega arith) l))

-- lists of classes that step alike byte by byte
step_alike : (n : ℕ) (R Q : Steps) (cs ds : List ℕ) → length cs ≡ length ds → ((k : ℕ) → k < length cs → (s : ℕ) → s < n → R (slice_index cs k) s ≡ Q (slice_index ds k) s) → StepAlike n R Q cs ds
step_alike n R Q [] [] e h = tt
step_alike n R Q [] (d ∷ ds) e h = absurd (omega arith)
step_alike n R Q (c ∷ cs) [] e h = absurd (omega arith)
step_alike n R Q (c ∷ cs) (d ∷ ds) e h = (h 0 (omega arith), step_alike n R Q cs ds (omega arith) (λ k l. h (suc k) (omega arith)))

module _ (p q : Machine) (ip : IsMachine p) (hp : HasByteClasses p) (iq : IsMachine q) (hq : HasByteClasses q)
    (starts : p.starts ≡ q.starts) (accepted : p.accepted ≡ q.accepted) (steps : (s b : ℕ) → s < state_count p → b < 256 → target_of p s b ≡ target_of q s b) where
  counts : state_count p ≡ state_count q
  counts = ap length accepted

  numbering : (p.classes ≡ q.classes) × (p.width ≡ q.width) × AlikeBelow (state_count p) (λ c i. class_target p i c) (λ c i. class_target q i c) p.width
  numbering =
      one_numbering (state_count p) (λ c i. class_target p i c) (λ c i. class_target q i c) p.width q.width
      (λ c d hc hd h. hp.different c d hc hd h) (λ c d hc hd h. hq.different c d hc hd (λ i l. h i (omega (arith, counts)))) 0 p.classes q.classes
      hp.numbered hq.numbered
      (step_alike (state_count p) (λ c i. class_target p i c) (λ c i. class_target q i c) p.classes q.classes (ip.bytes ∙ sym iq.bytes)
      (λ k l i h. steps i k h (let n = ip.bytes in omega arith)))
      (λ c l. absurd (omega arith))

  targets : p.targets ≡ q.targets
  targets =
      sym (rows_are p.targets p.width (state_count p) ip.rows)
      ∙ same_rows (λ i c. class_target p i c) (λ i c. slice_index_or q.targets (i * p.width + c) None) p.width (state_count p) 0
      (λ i c a b l. numbering.2 c l i (omega arith) ∙ ap (λ w. slice_index_or q.targets (i * w + c) None) (sym numbering.1))
      ∙ ap₂ (λ (n w : ℕ). flat_map (λ i. map (λ c. slice_index_or q.targets (i * w + c) None) (range_with_len 0 w)) (range_with_len 0 n)) counts numbering.1
      ∙ rows_are q.targets q.width (state_count q) iq.rows

  abbrev machine_with : List (ℕ × ℕ) → List ℕ → ℕ → List (Option ℕ) → List (Option ℕ) → Machine
  machine_with starts classes width accepted targets = record { starts = starts; classes = classes; width = width; accepted = accepted; targets = targets }

  pub one_machine : p ≡ q
  one_machine =
      ap (λ (xs : List (ℕ × ℕ)). machine_with xs p.classes p.width p.accepted p.targets) starts
      ∙ ap₂ (λ (xs : List ℕ) (w : ℕ). machine_with q.starts xs w p.accepted p.targets) numbering.0 numbering.1
      ∙ ap₂ (λ (xs ys : List (Option ℕ)). machine_with q.starts q.classes q.width xs ys) accepted targets
