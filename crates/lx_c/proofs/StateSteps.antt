-- The code of a state steps as the automaton does.
use Rattle.std.proofs.Common.{ℕ, zero, suc, ◌≡◌, ◌<◌, ◌+◌, ◌-◌, Bool, true, false, if◌then◌else◌, Option, Some, None, refl, sym, subst, ◌∙◌, arith, inl, inr, eq-zero-or-pos}
use Rattle.std.specs.Prelude.{slice_index, ◌==◌, ◌&&◌, not, nat_lt}
use Rattle.std.proofs.lemmas.Bool.Decides.{nat_tests}
use Rattle.lx_automaton.specs.Automata.{Machine, IsMachine, class_target, target_of}
use Rattle.lx_c.specs.StateCode.{count_below, earlier_fit, first_fit, first_target, fits, fitting_target, is_misfit, is_start, leads, mark, marked_target, misfit_count, most_singles, other_target, single_count, step_count, step_of}
use Rattle.lx_c.specs.StateSteps.{StepsAlike, by_marks, coded_step, first_of_two}

-- ---- a target that is tested by its marks fits

last_false : (b : Bool) (k : ℕ) → k + (if b then 1 else 0) ≡ 0 → (b ≡ false) × (k ≡ 0)
last_false true k e = absurd (omega (arith, e))
last_false false k e = (refl, omega (arith, e))

none_below : (test : ℕ → Bool) (n i : ℕ) → count_below test n ≡ 0 → i < n → test i ≡ false
none_below test zero i e l = absurd (omega (arith, l))
none_below test (suc n) i e l =
    let parts = last_false (test n) (count_below test n) e in
    elim (eq-zero-or-pos (n - i)) [
      | inl z ↦ subst (λ (j : ℕ). test j ≡ false) (omega (arith, z, l)) parts.0
      | inr p ↦ none_below test n i parts.1 (omega (arith, p))
    ]

both_true : (a b : Bool) → (a && b) ≡ true → (a ≡ true) × (b ≡ true)
both_true true b e = (refl, e)
both_true false b e = absurd (cc)

is_zero : (n : ℕ) → (n == 0) ≡ true → n ≡ 0
is_zero n e = grind (arith, nat_tests)

module _ (m : Machine) (s : ℕ) (comes_last : Bool) where
  chosen : (u t : ℕ) (b : Bool) → fits m s comes_last u ≡ b → (if b then Some u else None) ≡ Some t → fits m s comes_last t ≡ true
  chosen u t true h e = cc
  chosen u t false h e = absurd (cc)

  earlier : (t : ℕ) (best target : Option ℕ) → ((u : ℕ) → best ≡ Some u → fits m s comes_last u ≡ true) → earlier_fit m s comes_last best target ≡ Some t
      → fits m s comes_last t ≡ true
  earlier t (Some u) target h e = h t e
  earlier t None None h e = absurd (cc)
  earlier t None (Some u) h e = chosen u t (fits m s comes_last u) refl e

  found_fits : (n t : ℕ) → first_fit m s comes_last n ≡ Some t → fits m s comes_last t ≡ true
  found_fits zero t e = absurd (cc)
  found_fits (suc n) t e = earlier t (first_fit m s comes_last n) (class_target m s n) (λ u h. found_fits n u h) e

  no_misfits : (t class : ℕ) → fits m s comes_last t ≡ true → class < m.width → is_misfit m s comes_last t class ≡ false
  unfolding misfit_count
  no_misfits t class e l =
      let more = both_true (not (t == s)) (not (step_count m t (Some t) == 0) && misfit_count m s comes_last t == 0) e in
      let last = both_true (not (step_count m t (Some t) == 0)) (misfit_count m s comes_last t == 0) more.1 in
      none_below (is_misfit m s comes_last t) m.width class (is_zero (misfit_count m s comes_last t) last.1) l

if_start : (m : Machine) (s t : ℕ) (start : Bool) → (if start then fitting_target m s false else None) ≡ Some t → fits m s false t ≡ true
if_start m s t true e = found_fits m s false m.width t e
if_start m s t false e = absurd (cc)

first_fits : (m : Machine) (s t : ℕ) → first_target m s ≡ Some t → fits m s false t ≡ true
first_fits m s t e = if_start m s t (is_start m s) e

-- ---- the marks test the steps to their target

-- a byte on which the state has no step isn't marked
not_marked : (looping : Bool) (step : Option ℕ) (t : ℕ) → step ≡ None → (if not looping then leads (Some t) step else not (leads None step)) ≡ false
    → ◌≡◌ {A = ℕ} (if looping then 1 else 0) 0
not_marked true (Some u) t e h = absurd (cc)
not_marked true None t e h = absurd (cc)
not_marked false step t e h = refl

-- a byte by which the state leads to the target is marked
is_marked : (looping : Bool) (t : ℕ) → (if not looping then leads (Some t) (Some t) else not (leads None (Some t))) ≡ false → looping ≡ true
is_marked true t h = refl
is_marked false t h = absurd (grind (arith, nat_tests))

-- a byte on which a target goes on leads there
stray_leads : (looping : Bool) (step : Option ℕ) (t : ℕ) → looping ≡ true → (if not looping then false else not (leads (Some t) step)) ≡ false → step ≡ Some t
stray_leads true None t e h = absurd (cc)
stray_leads true (Some u) t e h =
    let one : u ≡ t = grind (arith, nat_tests) in
    subst (λ (j : ℕ). Some u ≡ Some j) one refl
stray_leads false step t e h = absurd (cc)

module _ (m : Machine) (h : IsMachine m) (nul_ends : Bool) (s b : ℕ) (inside : (nul_ends && b == 0) ≡ false) (below : b < 256) where
  fit_at : (t : ℕ) → fits m s true t ≡ true → (if not (leads (Some t) (target_of m t b)) then leads (Some t) (target_of m s b) else not (leads None (target_of m s b))) ≡ false
  fit_at t f = no_misfits m s true t (slice_index m.classes b) f (h.below b below)

  stray_at : (t : ℕ) → fits m s false t ≡ true → (if not (leads (Some t) (target_of m t b)) then false else not (leads (Some t) (target_of m s b))) ≡ false
  stray_at t f = no_misfits m s false t (slice_index m.classes b) f (h.below b below)

  mark_is : (t : ℕ) (looping : Bool) → leads (Some t) (target_of m t b) ≡ looping → mark nul_ends m t b ≡ (if looping then 1 else 0)
  mark_is t looping e = rw inside (rw e refl)

  outside : (t : ℕ) → fits m s true t ≡ true → target_of m s b ≡ None → mark nul_ends m t b ≡ 0
  outside t f e = mark_is t (leads (Some t) (target_of m t b)) refl ∙ not_marked (leads (Some t) (target_of m t b)) (target_of m s b) t e (fit_at t f)

  marked : (t : ℕ) → fits m s true t ≡ true → target_of m s b ≡ Some t → mark nul_ends m t b ≡ 1
  marked t f e = mark_is t true (is_marked (leads (Some t) (target_of m t b)) t (rw e at (fit_at t f)))

  -- ---- the test before all cases

  first_by_step : (t : ℕ) (looping : Bool) (step second : Option ℕ) → fits m s false t ≡ true → leads (Some t) (target_of m t b) ≡ looping → target_of m s b ≡ step
      → second ≡ step → first_of_two (by_marks nul_ends m (Some t) b) second ≡ step
  first_by_step t true step second f e k l =
      let to : target_of m s b ≡ Some t = stray_leads (leads (Some t) (target_of m t b)) (target_of m s b) t e (stray_at t f) in
      rw (mark_is t true e) (sym to ∙ k)
  first_by_step t false step second f e k l = rw (mark_is t false e) l

  first_and_cases : (first step second : Option ℕ) → ((t : ℕ) → first ≡ Some t → fits m s false t ≡ true) → target_of m s b ≡ step → second ≡ step
      → first_of_two (by_marks nul_ends m first b) second ≡ step
  first_and_cases None step second f k l = l
  first_and_cases (Some t) step second f k l = first_by_step t (leads (Some t) (target_of m t b)) step second (f t refl) refl k l

  -- ---- the tests, by the step of the automaton

  abbrev cases : Option ℕ → Option ℕ
  cases second = first_of_two (by_marks nul_ends m (first_target m s) b) second

  by_cases : (step : Option ℕ) → target_of m s b ≡ step → other_target nul_ends m s None b ≡ step → cases (other_target nul_ends m s None b) ≡ step
  by_cases step k l = first_and_cases (first_target m s) step (other_target nul_ends m s None b) (λ t e. first_fits m s t e) k l

  without_step : (many : Bool) (marks : Option ℕ) → ((t : ℕ) → marks ≡ Some t → fits m s true t ≡ true) → target_of m s b ≡ None
      → (if many then cases (other_target nul_ends m s None b) else first_of_two (other_target nul_ends m s marks b) (by_marks nul_ends m marks b)) ≡ None
  without_step true marks f e = by_cases None e (rw inside (rw e refl))
  without_step false None f e = rw inside (rw e refl)
  without_step false (Some t) f e = rw (outside t (f t refl) e) (rw inside (rw e refl))

  other_step : (many : Bool) (marks : Option ℕ) (u : ℕ) → ((t : ℕ) → marks ≡ Some t → fits m s true t ≡ true) → target_of m s b ≡ Some u → (u == s) ≡ false
      → (if many then cases (other_target nul_ends m s None b) else first_of_two (other_target nul_ends m s marks b) (by_marks nul_ends m marks b)) ≡ Some u
  other_step true marks u f e n = by_cases (Some u) e (rw inside (rw e (rw n refl)))
  other_step false None u f e n = rw inside (rw e (rw n refl))
  other_step false (Some t) u f e n = by_test (t == u) refl where
    by_test : (same : Bool) → (t == u) ≡ same → first_of_two (other_target nul_ends m s (Some t) b) (by_marks nul_ends m (Some t) b) ≡ Some u
    by_test true k =
        let one : t ≡ u = grind (arith, nat_tests) in
        rw (marked t (f t refl) (subst (λ (j : ℕ). target_of m s b ≡ Some j) (sym one) e)) (rw inside (rw e (rw n (rw k (subst (λ (j : ℕ). Some t ≡ Some j) one refl)))))
    by_test false k = rw inside (rw e (rw n (rw k refl)))

  fitting : (t : ℕ) → marked_target m s ≡ Some t → fits m s true t ≡ true
  fitting t k = found_fits m s true m.width t k

  abbrev many : Bool
  many = nat_lt most_singles (single_count nul_ends m s (marked_target m s))

  loops_by : (u : ℕ) (same : Bool) → target_of m s b ≡ Some u → (u == s) ≡ same → mark nul_ends m s b ≡ (if same then 1 else 0)
  loops_by u same e k = mark_is s same (rw e k)

  steps_to : (u : ℕ) (same : Bool) → target_of m s b ≡ Some u → (u == s) ≡ same → coded_step nul_ends m s b ≡ Some u
  steps_to u true e k =
      let one : s ≡ u = grind (arith, nat_tests) in
      rw (loops_by u true e k) (subst (λ (j : ℕ). Some s ≡ Some j) one refl)
  steps_to u false e k = rw (loops_by u false e k) (other_step many (marked_target m s) u fitting e k)

  steps_by : (step : Option ℕ) → target_of m s b ≡ step → coded_step nul_ends m s b ≡ step
  steps_by None e = rw (mark_is s false (rw e refl)) (without_step many (marked_target m s) fitting e)
  steps_by (Some u) e = steps_to u (u == s) e refl

-- ---- a byte 0 that ends the text

module _ (m : Machine) (nul_ends : Bool) (s b : ℕ) (ended : (nul_ends && b == 0) ≡ true) where
  unmarked : (t : ℕ) → mark nul_ends m t b ≡ 0
  unmarked t = rw ended refl

  none_by_marks : (marks : Option ℕ) → by_marks nul_ends m marks b ≡ None
  none_by_marks None = refl
  none_by_marks (Some t) = rw (unmarked t) refl

  no_other : (marks : Option ℕ) → other_target nul_ends m s marks b ≡ None
  no_other marks = rw ended refl

  none_tested : (many : Bool) (first marks : Option ℕ)
      → (if many then first_of_two (by_marks nul_ends m first b) (other_target nul_ends m s None b) else first_of_two (other_target nul_ends m s marks b) (by_marks nul_ends m marks b)) ≡ None
  none_tested true first marks = rw (none_by_marks first) (no_other None)
  none_tested false first marks = rw (no_other marks) (none_by_marks marks)

  none_coded : coded_step nul_ends m s b ≡ None
  none_coded = rw (unmarked s) (none_tested (nat_lt most_singles (single_count nul_ends m s (marked_target m s))) (first_target m s) (marked_target m s))

alike : (m : Machine) (h : IsMachine m) (nul_ends : Bool) (s b : ℕ) (ended : Bool) → (nul_ends && b == 0) ≡ ended → b < 256 → coded_step nul_ends m s b ≡ step_of nul_ends m s b
alike m h nul_ends s b true e l = none_coded m nul_ends s b e ∙ sym (rw e refl)
alike m h nul_ends s b false e l = steps_by m h nul_ends s b e l (target_of m s b) refl ∙ sym (rw e refl)

pub steps_alike : (m : Machine) → IsMachine m → (nul_ends : Bool) → StepsAlike nul_ends m
steps_alike m h nul_ends = λ s b l k. alike m h nul_ends s b (nul_ends && b == 0) refl k
