-- The best fit among the first k rules.
use Rattle.std.proofs.Common.{◌≡◌, ℕ, ◌+◌, ◌<◌, ◌≤◌, ◌⊎◌, inl, inr, Bool, true, false, List, Option, Some, None, length, refl, subst, arith, if◌then◌else◌}
use Rattle.std.specs.Prelude.{slice_get}
use Rattle.std.proofs.lemmas.Bool.{cases_lt}
use Rattle.std.proofs.lemmas.Option.{slice_get_within}
use Rattle.lx_rules.specs.Plain.{PlainRule, PlainSpec}
use Rattle.lx_rules.specs.Choice.{Fits, reach, IsChoice}

abbrev plus_if : Bool → ℕ → ℕ
plus_if true n = n + 1
plus_if false n = n

plus_if_le : (b : Bool) (m n : ℕ) → m ≤ n → (if b then m + 1 else m) ≤ (if b then n + 1 else n)
plus_if_le true m n h = omega (arith, h)
plus_if_le false m n h = h

plus_if_pos : (b : Bool) (n : ℕ) → 0 < n → 0 < (if b then n + 1 else n)
plus_if_pos true n h = omega (arith, h)
plus_if_pos false n h = h

module _ (spec : PlainSpec) (condition : ℕ) (begin : Bool) (text : List ℕ) where
  -- none of the first k rules fits
  pub record NoneBelow (k reached : ℕ) : Type 0 where
    pub none_yet : reached ≡ 0
    pub none : (j : ℕ) (rule : PlainRule) (n : ℕ) → j < k → slice_get spec.rules j ≡ Some rule → Fits spec rule condition begin text n → ⊥

  -- rule i with n bytes leads among the first k rules
  pub record LeadsBelow (k reached i n : ℕ) : Type 0 where
    pub rule : PlainRule
    pub at : slice_get spec.rules i ≡ Some rule
    pub reach_is : reached ≡ reach rule n
    pub fits : Fits spec rule condition begin text n
    pub leads : (j : ℕ) (other : PlainRule) (m : ℕ) → j < k → slice_get spec.rules j ≡ Some other → Fits spec other condition begin text m →
        (reach other m < reached) ⊎ ((reach other m ≡ reached) × (i ≤ j))
    pub place : i < k

  abbrev pub Best : ℕ → ℕ → Option (ℕ × ℕ) → Type 0
  Best k reached None = NoneBelow k reached
  Best k reached (Some f) = LeadsBelow k reached f.0 f.1

  same_rule : (k j : ℕ) (rule other : PlainRule) → slice_get spec.rules k ≡ Some rule → j < k + 1 → k ≤ j → slice_get spec.rules j ≡ Some other → other ≡ rule
  same_rule k j rule other at lt ge e = let h : j ≡ k = omega arith in let g : slice_get spec.rules k ≡ Some other = subst (λ i. slice_get spec.rules i ≡ Some other) h e in cc

  -- the rule at k fits no length
  pub Best-none : (k reached : ℕ) (best : Option (ℕ × ℕ)) (rule : PlainRule) → slice_get spec.rules k ≡ Some rule → ((m : ℕ) → Fits spec rule condition begin text m → ⊥) → Best k reached best → Best (k + 1) reached best
  Best-none k reached None rule at never b = record {
    none_yet = b.none_yet;
    none = λ j other n lt e f. elim (cases_lt j k) [ inl below ↦ b.none j other n below e f | inr ge ↦ never n (subst (λ r. Fits spec r condition begin text n) (same_rule k j rule other at lt ge e) f) ];
  }
  Best-none k reached (Some first) rule at never b = record {
    rule = b.rule;
    at = b.at;
    reach_is = b.reach_is;
    fits = b.fits;
    leads = λ j other m lt e g. elim (cases_lt j k) [ inl below ↦ b.leads j other m below e g | inr ge ↦ absurd (never m (subst (λ r. Fits spec r condition begin text m) (same_rule k j rule other at lt ge e) g)) ];
    place = (let p : first.0 < k = b.place in omega arith);
  }

  -- no length of the rule reaches further than its longest
  at_most : (rule other : PlainRule) (m n : ℕ) → other ≡ rule → ((m : ℕ) → Fits spec rule condition begin text m → m ≤ n) → Fits spec other condition begin text m → reach other m ≤ reach rule n
  at_most rule other m n e longest f = let h : m ≤ n = longest m (subst (λ r. Fits spec r condition begin text m) e f) in rw e (plus_if_le (rule.reading.line_end) m n h)

  -- the rule at k reaches further than all before it
  pub Best-new : (k reached : ℕ) (best : Option (ℕ × ℕ)) (rule : PlainRule) (n : ℕ) → slice_get spec.rules k ≡ Some rule → Fits spec rule condition begin text n → ((m : ℕ) → Fits spec rule condition begin text m → m ≤ n) →
      reached < reach rule n → Best k reached best → Best (k + 1) (reach rule n) (Some (k, n))
  Best-new k reached best rule n at f longest more b = record {
    rule = rule;
    at = at;
    reach_is = refl;
    fits = f;
    place = omega arith;
    leads = λ j other m lt e g. elim (cases_lt j k) [
      | inl below ↦ inl (before best b j other m below e g)
      | inr ge ↦ elim (cases_lt (reach other m) (reach rule n)) [
        | inl less ↦ inl less
        | inr up ↦ inr (let h : reach other m ≤ reach rule n = at_most rule other m n (same_rule k j rule other at lt ge e) longest g in omega (arith, h, up), ge)
      ]
    ];
  }
    where
      before : (best : Option (ℕ × ℕ)) → Best k reached best → (j : ℕ) (other : PlainRule) (m : ℕ) → j < k → slice_get spec.rules j ≡ Some other → Fits spec other condition begin text m → reach other m < reach rule n
      before None b j other m below e g = absurd (b.none j other m below e g)
      before (Some first) b j other m below e g = elim (b.leads j other m below e g) [ inl less ↦ omega (arith, less, more) | inr same ↦ omega (arith, same.0, more) ]

  -- the rule at k reaches no further
  pub Best-old : (k reached : ℕ) (best : Option (ℕ × ℕ)) (rule : PlainRule) (n : ℕ) → slice_get spec.rules k ≡ Some rule → Fits spec rule condition begin text n → ((m : ℕ) → Fits spec rule condition begin text m → m ≤ n) →
      reach rule n ≤ reached → Best k reached best → Best (k + 1) reached best
  Best-old k reached None rule n at f longest less b = absurd (let p : 0 < reach rule n = plus_if_pos (rule.reading.line_end) n f.not_empty in omega (arith, p, less, b.none_yet))
  Best-old k reached (Some first) rule n at f longest less b = record {
    rule = b.rule;
    at = b.at;
    reach_is = b.reach_is;
    fits = b.fits;
    place = (let p : first.0 < k = b.place in omega arith);
    leads = λ j other m lt e g. elim (cases_lt j k) [
      | inl below ↦ b.leads j other m below e g
      | inr ge ↦ elim (cases_lt (reach other m) reached) [
        | inl lower ↦ inl lower
        | inr up ↦ inr (let h : reach other m ≤ reach rule n = at_most rule other m n (same_rule k j rule other at lt ge e) longest g in omega (arith, h, up, less), let p : first.0 < k = b.place in omega (arith, p, ge))
      ]
    ];
  }

  -- among all rules
  pub Best-all : (k reached : ℕ) (best : Option (ℕ × ℕ)) → length spec.rules ≤ k → Best k reached best → IsChoice spec condition begin text best
  Best-all k reached None long b = λ j rule n at f. b.none j rule n (let h : j < length spec.rules = slice_get_within spec.rules j rule at in omega arith) at f
  Best-all k reached (Some first) long b = record {
    rule = b.rule;
    at = b.at;
    fits = b.fits;
    longest = λ j other m at f. let h : j < length spec.rules = slice_get_within spec.rules j other at in
        let e : reached ≡ reach (b.rule) (first.1) = b.reach_is in
        rw (← e) (b.leads j other m (omega arith) at f);
  }
