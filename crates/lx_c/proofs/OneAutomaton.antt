-- Automata whose arrays have the same words are the same.
use Rattle.std.proofs.Common.{ℕ, zero, suc, ◌≡◌, ◌<◌, ◌≤◌, ◌+◌, ◌*◌, ◌-◌, ◌/◌, ◌%◌, true, false, List, [], ◌∷◌, ◌++◌, Option, Some, None, length, map, get_or, refl, sym, ◌∙◌, ap, ap₂, subst, arith, inl, inr, eq-zero-or-pos}
use Rattle.std.specs.List.{flat_map, range_with_len}
use Rattle.std.proofs.Math.Nat.{div-lt_iff_lt-mul, mod-lt, mod-add-div, eq_of_mul-eq-mul_right, mul_comm}
use Rattle.std.proofs.lemmas.Nat.{mul-le}
use Rattle.std.proofs.lemmas.List.{ext_get_or, append_cancel_left, length-append}
use Rattle.std.proofs.lemmas.List.FromFn.{length-map-range_with_len, get_or-map-range_with_len}
use Rattle.lx_automaton.specs.Automata.{Machine, IsMachine, state_count, start_of, accepted_by, class_target}
use Rattle.lx_c.specs.Words.{row_width, row_of, target_word, rule_word}
use Rattle.lx_c.specs.Reading.{row_words, rows_words, start_words}

-- lists that begin with as many elements, joined
parts_same : (xs ys us vs : List ℕ) → length xs ≡ length us → xs ++ ys ≡ us ++ vs → (xs ≡ us) × (ys ≡ vs)
parts_same [] ys [] vs l e = (refl, e)
parts_same [] ys (u ∷ us) vs l e = absurd (omega (arith, l))
parts_same (x ∷ xs) ys [] vs l e = absurd (omega (arith, l))
parts_same (x ∷ xs) ys (u ∷ us) vs l e =
    let more = parts_same xs ys us vs (omega (arith, l)) (cc) in
    (ap₂ (λ (a : ℕ) (as' : List ℕ). a ∷ as') (cc) more.0, more.1)

-- rows of one length, joined
rows_same : (f g : ℕ → List ℕ) (w : ℕ) → ((s : ℕ) → length (f s) ≡ w + 1) → ((s : ℕ) → length (g s) ≡ w + 1) → (a n k : ℕ) →
    flat_map f (range_with_len a n) ≡ flat_map g (range_with_len a k) → (n ≡ k) × ((s : ℕ) → a ≤ s → s < a + n → f s ≡ g s)
rows_same f g w lf lg a zero zero e = (refl, λ s l h. absurd (omega (arith, l, h)))
rows_same f g w lf lg a zero (suc k) e =
    absurd (omega (arith, ap length e, length-append (g a) (flat_map g (range_with_len (a + 1) k)), lg a))
rows_same f g w lf lg a (suc n) zero e =
    absurd (omega (arith, ap length e, length-append (f a) (flat_map f (range_with_len (a + 1) n)), lf a))
rows_same f g w lf lg a (suc n) (suc k) e =
    let parts = parts_same (f a) (flat_map f (range_with_len (a + 1) n)) (g a) (flat_map g (range_with_len (a + 1) k)) (lf a ∙ sym (lg a)) e in
    let more = rows_same f g w lf lg (a + 1) n k parts.1 in (
      ap suc more.0,
      λ s l h.
          elim (eq-zero-or-pos (s - a)) [
            | inl z ↦ subst (λ (i : ℕ). f i ≡ g i) (omega (arith, l, z)) parts.0
            | inr p ↦ more.1 s (omega (arith, p)) (omega (arith, h))
          ],
    )

word_same : (f g : ℕ → ℕ) (n : ℕ) → map f (range_with_len 0 n) ≡ map g (range_with_len 0 n) → (k : ℕ) → k < n → f k ≡ g k
word_same f g n e k l = sym (get_or-map-range_with_len f 0 n k k 0 l (omega arith)) ∙ (ap (λ ws. get_or ws k 0) e ∙ get_or-map-range_with_len g 0 n k k 0 l (omega arith))

-- the places of the rows of two automata of one width
row_of_same : (m n : Machine) (s t : ℕ) → m.width ≡ n.width → row_of m s ≡ row_of n t → s ≡ t
row_of_same m n s t w e =
    let same : (s + 1) * (m.width + 1) ≡ (t + 1) * (m.width + 1) = e ∙ ap (λ k. (t + 1) * (k + 1)) (sym w) in
    let more = eq_of_mul-eq-mul_right (m.width + 1) (omega arith) (s + 1) (t + 1) same in
    omega (arith, more)

row_of_positive : (m : Machine) (s : ℕ) → 0 < row_of m s
row_of_positive m s = omega (arith, mul-le 1 1 (s + 1) (m.width + 1) (omega arith) (omega arith))

target_same : (m n : Machine) (s t : Option ℕ) → m.width ≡ n.width → target_word m s ≡ target_word n t → s ≡ t
target_same m n None None w e = refl
target_same m n None (Some t) w e = absurd (omega (arith, e, row_of_positive n t))
target_same m n (Some s) None w e = absurd (omega (arith, e, row_of_positive m s))
target_same m n (Some s) (Some t) w e = ap (λ (k : ℕ). Some k) (row_of_same m n s t w e)

rule_same : (r q : Option ℕ) → rule_word r ≡ rule_word q → r ≡ q
rule_same None None e = refl
rule_same None (Some q) e = absurd (omega (arith, e))
rule_same (Some r) None e = absurd (omega (arith, e))
rule_same (Some r) (Some q) e = ap (λ (k : ℕ). Some k) (omega (arith, e))

pair_same : (a b : ℕ × ℕ) → a.0 ≡ b.0 → a.1 ≡ b.1 → a ≡ b
pair_same a b first second = ap₂ (λ (x y : ℕ). (x, y)) first second

-- an entry of flat rows by its state and class
entry_at : (targets : List (Option ℕ)) (width i : ℕ) → get_or targets i None ≡ get_or targets (i / width * width + i % width) None
entry_at targets width i =
    let parts : i % width + width * (i / width) ≡ i = mod-add-div i width in
    let turned : i / width * width ≡ width * (i / width) = mul_comm (i / width) width in
    ap (λ (j : ℕ). get_or targets j None) (omega (arith, parts, turned))

module _ (m n : Machine) (im : IsMachine m) (io : IsMachine n) (width : m.width ≡ n.width) (rows : rows_words m ≡ rows_words n) (starts : start_words m ≡ start_words n) where
  row_length : (k : Machine) (s : ℕ) → length (row_words k s) ≡ k.width + 1
  row_length k s = length-append (map (λ c. target_word k (class_target k s c)) (range_with_len 0 k.width)) (rule_word (accepted_by k s) ∷ []) ∙ ap (λ (l : ℕ). l + 1) (length-map-range_with_len (λ c. target_word k (class_target k s c)) 0 k.width)

  joined : flat_map (row_words m) (range_with_len 0 (state_count m)) ≡ flat_map (row_words n) (range_with_len 0 (state_count n))
  joined =
      append_cancel_left (map (λ c. 0) (range_with_len 0 (row_width m))) _ _
      (rows ∙ ap (λ w. map (λ c. 0) (range_with_len 0 (w + 1)) ++ flat_map (row_words n) (range_with_len 0 (state_count n))) (sym width))

  same_rows : (state_count m ≡ state_count n) × ((s : ℕ) → 0 ≤ s → s < 0 + state_count m → row_words m s ≡ row_words n s)
  same_rows = rows_same (row_words m) (row_words n) m.width (row_length m) (λ s. row_length n s ∙ ap (λ w. w + 1) (sym width)) 0 (state_count m) (state_count n) joined

  row_parts : (s : ℕ) → s < state_count m → (map (λ c. target_word m (class_target m s c)) (range_with_len 0 m.width) ≡ map (λ c. target_word n (class_target n s c)) (range_with_len 0 n.width)) × (rule_word (accepted_by m s) ∷ [] ≡ rule_word (accepted_by n s) ∷ [])
  row_parts s l =
      parts_same (map (λ c. target_word m (class_target m s c)) (range_with_len 0 m.width)) (rule_word (accepted_by m s) ∷ []) (map (λ c. target_word n (class_target n s c)) (range_with_len 0 n.width)) (rule_word (accepted_by n s) ∷ [])
      (length-map-range_with_len (λ c. target_word m (class_target m s c)) 0 m.width ∙ (width ∙ sym (length-map-range_with_len (λ c. target_word n (class_target n s c)) 0 n.width)))
      (same_rows.1 s (omega arith) (omega (arith, l)))

  class_target_same : (s c : ℕ) → s < state_count m → c < m.width → class_target m s c ≡ class_target n s c
  class_target_same s c l k =
      target_same m n (class_target m s c) (class_target n s c) width
      (word_same (λ d. target_word m (class_target m s d)) (λ d. target_word n (class_target n s d)) m.width
      ((row_parts s l).0 ∙ ap (λ w. map (λ d. target_word n (class_target n s d)) (range_with_len 0 w)) (sym width)) c k)

  accepted_same : m.accepted ≡ n.accepted
  accepted_same =
      ext_get_or None m.accepted n.accepted same_rows.0
      (λ s l. rule_same (accepted_by m s) (accepted_by n s) (ap (λ ws. get_or ws 0 0) (row_parts s l).1))

  targets_same : m.targets ≡ n.targets
  targets_same =
      ext_get_or None m.targets n.targets (im.rows ∙ (ap₂ (λ (k w : ℕ). k * w) same_rows.0 width ∙ sym io.rows))
      (λ i l.
      let inside : i < state_count m * m.width = subst (λ (k : ℕ). i < k) im.rows l in
      elim (eq-zero-or-pos m.width) [
        | inl z ↦ absurd (omega (arith, subst (λ (k : ℕ). i < state_count m * k) z inside))
        | inr p ↦
            let s = i / m.width in
            let c = i % m.width in
            entry_at m.targets m.width i
            ∙ (class_target_same s c ((div-lt_iff_lt-mul p).1 inside) (mod-lt i p)
            ∙ (ap (λ w. get_or n.targets (s * w + c) None) (sym width) ∙ sym (entry_at n.targets m.width i)))
      ])

  start_words_of : Machine → ℕ → List ℕ
  start_words_of k c = row_of k (start_of k c false) ∷ (row_of k (start_of k c true) ∷ [])

  same_starts : (length m.starts ≡ length n.starts) × ((c : ℕ) → 0 ≤ c → c < 0 + length m.starts → start_words_of m c ≡ start_words_of n c)
  unfolding start_words_of
  same_starts = rows_same (start_words_of m) (start_words_of n) 1 (λ c. refl) (λ c. refl) 0 (length m.starts) (length n.starts) starts

  starts_same : m.starts ≡ n.starts
  unfolding start_words_of
  starts_same =
      ext_get_or (0, 0) m.starts n.starts same_starts.0
      (λ c l.
      let words = same_starts.1 c (omega arith) (omega (arith, l)) in
      pair_same (get_or m.starts c (0, 0)) (get_or n.starts c (0, 0))
      (row_of_same m n (start_of m c false) (start_of n c false) width (ap (λ ws. get_or ws 0 0) words))
      (row_of_same m n (start_of m c true) (start_of n c true) width (ap (λ ws. get_or ws 1 0) words)))

abbrev machine_with : List (ℕ × ℕ) → List ℕ → ℕ → List (Option ℕ) → List (Option ℕ) → Machine
machine_with starts classes width accepted targets = record { starts = starts; classes = classes; width = width; accepted = accepted; targets = targets }

pub one_automaton : (m n : Machine) → IsMachine m → IsMachine n → m.width ≡ n.width → m.classes ≡ n.classes → rows_words m ≡ rows_words n → start_words m ≡ start_words n → m ≡ n
one_automaton m n im io width classes rows starts =
    ap (λ (xs : List (ℕ × ℕ)). machine_with xs m.classes m.width m.accepted m.targets) (starts_same m n im io width rows starts)
    ∙ (ap₂ (λ (xs : List ℕ) (w : ℕ). machine_with n.starts xs w m.accepted m.targets) classes width
    ∙ ap₂ (λ (xs ys : List (Option ℕ)). machine_with n.starts n.classes n.width xs ys) (accepted_same m n im io width rows starts) (targets_same m n im io width rows starts))
