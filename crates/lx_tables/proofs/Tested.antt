-- The meaning of the lists' tests for the machine that they make.
use Rattle.std.proofs.Common.{◌≡◌, ℕ, zero, suc, ◌+◌, ◌-◌, ◌*◌, ◌/◌, ◌%◌, ◌<◌, ◌≤◌, Bool, true, false, Some, None, List, [], ◌∷◌, length, map, get_or, slice_index, slice_index_or, refl, sym, ◌∙◌, ap, arith, inl, inr}
use Rattle.std.specs.Prelude.{◌==◌, nat_lt, nat_le}
use Rattle.std.specs.List.{list_all}
use Rattle.std.proofs.lemmas.Bool.{and_parts, and_from, cases_eq, ltb-true, lt-ltb, leb-true, le-leb, eqb-true}
use Rattle.std.proofs.lemmas.Bool.Decides.{eqb_tells}
use Rattle.std.proofs.lemmas.List.{length-map}
use Rattle.std.proofs.lemmas.List.Folds.{list_all-map}
use Rattle.std.proofs.lemmas.Nat.{div-add-mod'}
use Rattle.std.proofs.Math.Nat.{mod-lt, mul-zero, div-lt_iff_lt-mul}
use Rattle.lx_automaton.specs.Automata.{Machine, state_count, start_of, accepted_by}
use Rattle.lx_automaton.specs.EncodedOptions.{decoded_option, machine_of}
use Rattle.lx_rules.specs.Invariant.{are_steps}
use Rattle.lx_tables.specs.Limits.{IsMachineFor, are_rules, is_start, have_lengths, are_in_range}
use Rattle.lx_tables.specs.Views.{rule_view, rules_view}
use Rattle.lx_tables.specs.declared.table_rule.TableRule.{TableRule as CodeRule}
use Rattle.lx_automaton.proofs.EncodedLists.{decoded_at, decoded_option-some, encoded_option_above}

eqb-refl : (n : ℕ) → (n == n) ≡ true
eqb-refl n = elim (eqb_tells n n) [ inl t ↦ t.0 | inr t ↦ absurd (t.1 refl) ]

-- each element passes
pub each_of : {A : Type 0} (p : A → Bool) (d : A) (xs : List A) → list_all p xs ≡ true → (k : ℕ) → k < length xs → p (get_or xs k d) ≡ true
each_of p d [] h k l = absurd (omega arith)
each_of p d (x ∷ xs) h zero l = (and_parts (p x) (list_all p xs) h).0
each_of p d (x ∷ xs) h (suc k) l = each_of p d xs (and_parts (p x) (list_all p xs) h).1 k (omega arith)

pub all_of : {A : Type 0} (p : A → Bool) (d : A) (xs : List A) → ((k : ℕ) → k < length xs → p (get_or xs k d) ≡ true) → list_all p xs ≡ true
all_of p d [] h = refl
all_of p d (x ∷ xs) h = and_from (p x) (list_all p xs) (h 0 (omega arith)) (all_of p d xs (λ k l. h (suc k) (omega arith)))

-- no encoded option is above, not even that past the end, which is 0
encoded_option_within : (n : ℕ) (ws : List ℕ) → list_all (λ w. nat_le w n) ws ≡ true → (i : ℕ) → slice_index ws i ≤ n
encoded_option_within n [] h i = omega arith
encoded_option_within n (w ∷ ws) h zero = leb-true w n (and_parts (nat_le w n) (list_all (λ w. nat_le w n) ws) h).0
encoded_option_within n (w ∷ ws) h (suc i) = encoded_option_within n ws (and_parts (nat_le w n) (list_all (λ w. nat_le w n) ws) h).1 i

module _ (rules : ℕ) (starts : List (ℕ × ℕ)) (classes : List ℕ) (width : ℕ) (accepted targets : List ℕ) where
  abbrev m : Machine
  m = machine_of starts classes width accepted targets

  states : state_count m ≡ length accepted
  states = length-map accepted decoded_option

  record Lengths : Type 0 where
    pub some : 0 < length starts
    pub few : length starts ≤ 64
    pub bytes : length classes ≡ 256
    pub narrow : width ≤ 256
    pub counted : length accepted ≤ 16512
    pub rows : length targets ≡ length accepted * width

  lengths_of : have_lengths starts classes width accepted targets ≡ true → Lengths
  lengths_of h =
      let a = and_parts (nat_lt 0 (length starts)) _ h in
      let b = and_parts (nat_le (length starts) 64) _ a.1 in
      let c = and_parts (length classes == 256) _ b.1 in
      let d = and_parts (nat_le width 256) _ c.1 in
      let e = and_parts (nat_le (length accepted) 16512) _ d.1 in
      record {
        some = ltb-true 0 (length starts) a.0;
        few = leb-true (length starts) 64 b.0;
        bytes = eqb-true (length classes) 256 c.0;
        narrow = leb-true width 256 d.0;
        counted = leb-true (length accepted) 16512 e.0;
        rows = eqb-true (length targets) (length accepted * width) e.1;
      }

  start_below : list_all (is_start (length accepted)) starts ≡ true → (c : ℕ) (begin : Bool) → c < length starts → start_of m c begin < state_count m
  start_below h c begin l =
      let start = get_or starts c (0, 0) in
      let p = and_parts (nat_lt start.0 (length accepted)) (nat_lt start.1 (length accepted)) (each_of (is_start (length accepted)) (0, 0) starts h c l) in
      let elsewhere : start.0 < length accepted = ltb-true start.0 (length accepted) p.0 in
      let at_begin : start.1 < length accepted = ltb-true start.1 (length accepted) p.1 in
      by begin (omega (arith, states)) (omega (arith, states))
    where
      by : (b : Bool) → (get_or starts c (0, 0)).0 < state_count m → (get_or starts c (0, 0)).1 < state_count m → start_of m c b < state_count m
      by true x y = y
      by false x y = x

  -- lists that pass both tests make a machine
  pub machine_tested : rules ≤ 4096 → have_lengths starts classes width accepted targets ≡ true → are_in_range rules starts classes width accepted targets ≡ true → IsMachineFor rules m
  machine_tested few h g =
      let long = lengths_of h in
      let a = and_parts (list_all (is_start (length accepted)) starts) _ g in
      let b = and_parts (list_all (λ class. nat_lt class width) classes) _ a.1 in
      let c = and_parts (list_all (λ encoded_option. nat_le encoded_option rules) accepted) _ b.1 in
      let accepts : (s r : ℕ) → accepted_by m s ≡ Some r → r < rules = λ s r e.
      let w = encoded_option_above (slice_index accepted s) r (sym (decoded_at accepted s) ∙ e) in
      let l = encoded_option_within rules accepted c.0 s in
      omega arith in
      record {
        machine = record {
          some = long.some;
          few = long.few;
          starts = start_below a.0;
          bytes = long.bytes;
          below = λ k l. ltb-true (slice_index classes k) width (each_of (λ class. nat_lt class width) 0 classes b.0 k (let e = long.bytes in omega arith));
          narrow = long.narrow;
          rows = length-map targets decoded_option ∙ long.rows ∙ ap (λ n. n * width) (sym states);
          closed = λ s class t hs hc e.
              let w = encoded_option_above (slice_index targets (s * width + class)) t (sym (decoded_at targets (s * width + class)) ∙ e) in
              let l = encoded_option_within (length accepted) targets c.1 (s * width + class) in
              omega (arith, states);
          states = (let n = long.counted in omega (arith, states));
          rules = λ s r e. let l = accepts s r e in omega arith;
        };
        accepted = accepts;
      }

  module _ (is : IsMachineFor rules m) where
    pub lengths_tested : have_lengths starts classes width accepted targets ≡ true
    lengths_tested =
        let machine = is.machine in
        let rows : length targets ≡ length accepted * width = sym (length-map targets decoded_option) ∙ machine.rows ∙ ap (λ n. n * width) states in
        and_from (nat_lt 0 (length starts)) _ (lt-ltb 0 (length starts) machine.some)
        (and_from (nat_le (length starts) 64) _ (le-leb (length starts) 64 machine.few)
        (and_from (length classes == 256) _ (let e = machine.bytes in rw e refl)
        (and_from (nat_le width 256) _ (le-leb width 256 machine.narrow)
        (and_from (nat_le (length accepted) 16512) _ (le-leb (length accepted) 16512 (let n = machine.states in omega (arith, states)))
        (rw rows (eqb-refl (length accepted * width)))))))

    target_within : (i : ℕ) → i < length targets → slice_index targets i ≤ length accepted
    target_within i l =
        elim (cases_eq (slice_index targets i) 0) [
          | inl e ↦ omega arith
          | inr e ↦
              let rows : length targets ≡ length accepted * width = sym (length-map targets decoded_option) ∙ is.machine.rows ∙ ap (λ n. n * width) states in
              let wide : 0 < width = (elim (cases_eq width 0) [
                | inl z ↦ let none : length accepted * width ≡ 0 = ap (λ n. length accepted * n) z ∙ mul-zero (length accepted) in absurd (omega arith)
                | inr z ↦ omega arith
              ]) in
              let parts : i / width * width + i % width ≡ i = div-add-mod' i width in
              let c : i % width < width = mod-lt i wide in
              let s : i / width < length accepted = (div-lt_iff_lt-mul wide).1 (omega arith) in
              let t = is.machine.closed (i / width) (i % width) (slice_index targets i - 1) (omega (arith, states)) c
              (ap (λ k. slice_index_or (map decoded_option targets) k None) parts ∙ decoded_at targets i ∙ decoded_option-some (slice_index targets i) e) in
              omega (arith, states)
        ]

    accepted_within : (s : ℕ) → s < length accepted → slice_index accepted s ≤ rules
    accepted_within s l = elim (cases_eq (slice_index accepted s) 0) [
      | inl e ↦ omega arith
      | inr e ↦ let r = is.accepted s (slice_index accepted s - 1) (decoded_at accepted s ∙ decoded_option-some (slice_index accepted s) e) in omega arith
    ]

    pub range_tested : are_in_range rules starts classes width accepted targets ≡ true
    range_tested =
        and_from (list_all (is_start (length accepted)) starts) _
        (all_of (is_start (length accepted)) (0, 0) starts (λ k l.
        let a = is.machine.starts k false l in
        let b = is.machine.starts k true l in
        and_from (nat_lt (get_or starts k (0, 0)).0 (length accepted)) _ (lt-ltb (get_or starts k (0, 0)).0 (length accepted) (omega (arith, states))) (lt-ltb (get_or starts k (0, 0)).1 (length accepted) (omega (arith, states)))))
        (and_from (list_all (λ class. nat_lt class width) classes) _
        (all_of (λ class. nat_lt class width) 0 classes (λ k l. lt-ltb (slice_index classes k) width (is.machine.below k (let e = is.machine.bytes in omega arith))))
        (and_from (list_all (λ encoded_option. nat_le encoded_option rules) accepted) _
        (all_of (λ encoded_option. nat_le encoded_option rules) 0 accepted (λ k l. le-leb (slice_index accepted k) rules (accepted_within k l)))
        (all_of (λ encoded_option. nat_le encoded_option (length accepted)) 0 targets (λ k l. le-leb (slice_index targets k) (length accepted) (target_within k l)))))

-- the steps of the code's rules
pub steps_are : (rules now : List CodeRule) (c k conditions kinds : ℕ) → now ≡ rules → c ≡ conditions → k ≡ kinds →
    are_rules conditions kinds (rules_view rules) ≡ list_all (λ rule. are_steps c k rule.steps) now
steps_are rules now c k conditions kinds e f g = rw (e, f, g) (list_all-map (λ rule. are_steps conditions kinds rule.steps) rule_view rules)
