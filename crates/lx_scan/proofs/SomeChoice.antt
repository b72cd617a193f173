-- There is a choice at each place of a text, by the rules of any specification. Of the lengths and rules that fit, one is the best, since it is
-- decidable if a rule fits.
use Rattle.std.proofs.Common.{◌≡◌, ◌∙◌, ℕ, zero, suc, ◌+◌, ◌<◌, ◌≤◌, ◌⊎◌, inl, inr, Bool, true, false, List, [], ◌∷◌, Option, Some, None, MatchOption, Contains, length, take, refl, ap, sym, subst, arith, if◌then◌else◌}
use Rattle.std.specs.Prelude.{slice_get}
use Rattle.std.specs.Option.{option_map}
use Rattle.std.proofs.lemmas.Option.{slice_get_within}
use native.Mathlib.Decide.{ℕ_discrete}
use Rattle.lx_ere.specs.Matching.{Matches}
use Rattle.lx_rules.specs.Choice.{SpecNames, Fits, IsChoice, reach}
use Rattle.lx_rules.specs.Limits.{max_name_depth}
use Rattle.lx_rules.specs.Names.{DefinedMatches, NameMatches}
use Rattle.lx_rules.specs.Plain.{PlainDefinition, PlainRule, PlainSpec}
use Rattle.lx_automaton.proofs.Members.{contains_nil, contains_head, contains_tail, contains_cases}
use Rattle.lx_ere.proofs.Deciding.{along, both, either, decide_true, below_or_not, decide_below}
use Rattle.lx_scan.proofs.DecidedMatches.{decide_at_most, greatest, least, decide_same, decide_matches}

-- ---- names

module _ (inner : List ℕ → List ℕ → Type 0) (d : (name w : List ℕ) → Dec (inner name w)) where
  stands_first : (x : PlainDefinition) (ds : List PlainDefinition) (name w : List ℕ) (e : PlainDefinition) (place : ℕ) → slice_get (x ∷ ds) place ≡ Some e → e.name ≡ name →
      Matches inner e.tree w → ((x.name ≡ name) × Matches inner x.tree w) ⊎ DefinedMatches inner ds name w
  stands_first x ds name w e zero at is m =
      let one : e ≡ x = cc in
      inl (subst (λ (y : PlainDefinition). y.name ≡ name) one is, subst (λ (y : PlainDefinition). Matches inner y.tree w) one m)
  stands_first x ds name w e (suc place) at is m = inr (e, record { place = place; at = at; is = is }, m)

  decide_defined : (ds : List PlainDefinition) (name w : List ℕ) → Dec (DefinedMatches inner ds name w)
  decide_defined [] name w = no (λ h. let at : None ≡ Some h.0 = h.1.at in absurd (cc))
  decide_defined (x ∷ ds) name w =
      along out (λ h. stands_first x ds name w h.0 h.1.place h.1.at h.1.is h.2) (either (both (decide_same x.name name) (decide_matches inner d x.tree w)) (decide_defined ds name w)) where
        out : ((x.name ≡ name) × Matches inner x.tree w) ⊎ DefinedMatches inner ds name w → DefinedMatches inner (x ∷ ds) name w
        out (inl h) = (x, record { place = 0; at = refl; is = h.0 }, h.1)
        out (inr h) = (h.0, record { place = suc h.1.place; at = h.1.at; is = h.1.is }, h.2)

decide_names : (ds : List PlainDefinition) (n : ℕ) (name w : List ℕ) → Dec (NameMatches ds n name w)
decide_names ds zero name w = no (λ h. h)
decide_names ds (suc n) name w = decide_defined (NameMatches ds n) (decide_names ds n) ds name w

decide_spec_names : (spec : PlainSpec) (name w : List ℕ) → Dec (SpecNames spec name w)
unfolding SpecNames
decide_spec_names spec name w = decide_names spec.definitions max_name_depth name w

-- ---- rules

decide_contains : (xs : List ℕ) (x : ℕ) → Dec (Contains xs x)
decide_contains [] x = no (contains_nil x)
decide_contains (y ∷ xs) x = along out (contains_cases y x xs) (either (ℕ_discrete y x) (decide_contains xs x)) where
  out : (y ≡ x) ⊎ Contains xs x → Contains (y ∷ xs) x
  out (inl e) = subst (λ (z : ℕ). Contains (y ∷ xs) z) e (contains_head y xs)
  out (inr h) = contains_tail y x xs h

decide_shared : (o : Option Bool) → Dec (o ≡ Some false)
decide_shared None = no (λ e. absurd (cc))
decide_shared (Some true) = no (λ e. absurd (cc))
decide_shared (Some false) = yes refl

decide_active : (conditions : Option (List ℕ)) (exclusive : Option Bool) (condition : ℕ) → Dec (MatchOption conditions (exclusive ≡ Some false) (λ list. Contains list condition))
decide_active None exclusive condition = decide_shared exclusive
decide_active (Some list) exclusive condition = decide_contains list condition

decide_where : (b : Bool) (P : Type 0) → Dec P → Dec (b ≡ true → P)
decide_where true P d = along (λ p e. p) (λ f. f refl) d
decide_where false P d = yes (λ e. absurd (cc))

decide_byte : (o : Option ℕ) (b : ℕ) → Dec (o ≡ Some b)
decide_byte None b = no (λ e. absurd (cc))
decide_byte (Some a) b = along (λ e. ap (λ (c : ℕ). Some c) e) (λ e. (cc)) (ℕ_discrete a b)

module _ (spec : PlainSpec) (condition : ℕ) (begin : Bool) (text : List ℕ) where
  decide_fits : (rule : PlainRule) (n : ℕ) → Dec (Fits spec rule condition begin text n)
  decide_fits rule n =
      along
      (λ h. record { active = h.0; line_begin = h.1.0; not_empty = h.1.1.0; within = h.1.1.1.0; matches = h.1.1.1.1.0; line_end = h.1.1.1.1.1 })
      (λ h. (h.active, (h.line_begin, (h.not_empty, (h.within, (h.matches, h.line_end))))))
      (both (decide_active rule.conditions (option_map (λ c. c.exclusive) (slice_get spec.conditions condition)) condition)
      (both (decide_where rule.reading.line_begin (begin ≡ true) (decide_true begin))
      (both (decide_at_most 1 n)
      (both (decide_at_most n (length text))
      (both (decide_matches (SpecNames spec) (decide_spec_names spec) rule.reading.tree (take n text))
      (decide_where rule.reading.line_end (slice_get text n ≡ Some 10) (decide_byte (slice_get text n) 10)))))))

  -- rule j fits n bytes, with reach r
  Reaches : ℕ → ℕ → ℕ → Type 0
  Reaches r j n = (rule : PlainRule) × (slice_get spec.rules j ≡ Some rule) × Fits spec rule condition begin text n × (reach rule n ≡ r)

  decide_reaches : (r j n : ℕ) → Dec (Reaches r j n)
  unfolding Reaches
  decide_reaches r j n = at (slice_get spec.rules j) refl where
    at : (o : Option PlainRule) → slice_get spec.rules j ≡ o → Dec ((rule : PlainRule) × (slice_get spec.rules j ≡ Some rule) × Fits spec rule condition begin text n × (reach rule n ≡ r))
    at None e = no (λ h. let there : None ≡ Some h.0 = sym e ∙ h.1 in absurd (cc))
    at (Some rule) e =
        along (λ h. (rule, e, h.0, h.1)) (λ h. same h.0 h.1 h.2 h.3) (both (decide_fits rule n) (ℕ_discrete (reach rule n) r)) where
          same : (other : PlainRule) → slice_get spec.rules j ≡ Some other → Fits spec other condition begin text n → reach other n ≡ r → Fits spec rule condition begin text n × (reach rule n ≡ r)
          same other at fits is =
              let one : other ≡ rule = cc in
              (subst (λ (x : PlainRule). Fits spec x condition begin text n) one fits, subst (λ (x : PlainRule). reach x n ≡ r) one is)

  -- rule j fits bytes with this reach; some rule does
  OfRule : ℕ → ℕ → Type 0
  OfRule r j = (n : ℕ) × (n < suc (length text)) × Reaches r j n

  OfSome : ℕ → Type 0
  OfSome r = (j : ℕ) × (j < length spec.rules) × OfRule r j

  decide_of_rule : (r j : ℕ) → Dec (OfRule r j)
  unfolding OfRule
  decide_of_rule r j = decide_below (Reaches r j) (decide_reaches r j) (suc (length text))

  decide_of_some : (r : ℕ) → Dec (OfSome r)
  unfolding OfSome
  decide_of_some r = decide_below (OfRule r) (decide_of_rule r) (length spec.rules)

  is_of_rule : (j : ℕ) (rule : PlainRule) (n : ℕ) → slice_get spec.rules j ≡ Some rule → Fits spec rule condition begin text n → OfRule (reach rule n) j
  unfolding OfRule Reaches
  is_of_rule j rule n at fits = (n, (let w = fits.within in omega arith), (rule, at, fits, refl))

  is_of_some : (j : ℕ) (rule : PlainRule) (n : ℕ) → slice_get spec.rules j ≡ Some rule → Fits spec rule condition begin text n → OfSome (reach rule n)
  unfolding OfSome
  is_of_some j rule n at fits = (j, slice_get_within spec.rules j rule at, is_of_rule j rule n at fits)

  reaches_within : (rule : PlainRule) (n : ℕ) → n ≤ length text → reach rule n < length text + 2
  reaches_within rule n l = by rule.reading.line_end where
    by : (b : Bool) → (if b then n + 1 else n) < length text + 2
    by true = omega (arith, l)
    by false = omega (arith, l)

  -- the earliest rule of the greatest reach
  chosen : (r : ℕ) → OfSome r → ((m : ℕ) → m < length text + 2 → OfSome m → m ≤ r) → (choice : Option (ℕ × ℕ)) × IsChoice spec condition begin text choice
  unfolding OfSome OfRule Reaches
  chosen r some most = elim (least (OfRule r) (decide_of_rule r) (length spec.rules)) as (λ _. (choice : Option (ℕ × ℕ)) × IsChoice spec condition begin text choice) [
    | inl none ↦ absurd (none some.0 some.1 some.2)
    | inr first ↦
        let found = first.2 in
        let of = found.2 in (
          Some (first.0, found.0),
          record {
            rule = of.0;
            at = of.1;
            fits = of.2;
            longest = λ j other m at fits.
                let far = most (reach other m) (reaches_within other m fits.within) (is_of_some j other m at fits) in
                let is = of.3 in
                elim (ℕ_discrete (reach other m) r) as (λ _. (reach other m < reach of.0 found.0) ⊎ ((reach other m ≡ reach of.0 found.0) × (first.0 ≤ j))) [
                  | yes e ↦ inr (e ∙ sym is, first.3 j (slice_get_within spec.rules j other at) (subst (λ (q : ℕ). OfRule q j) e (is_of_rule j other m at fits)))
                  | no less ↦ inl (elim (below_or_not (reach of.0 found.0) (reach other m)) as (λ _. reach other m < reach of.0 found.0) [ inl l ↦ absurd (less (omega (arith, far, is, l))) | inr l ↦ l ])
                ];
          },
        )
  ]

  pub some_choice : (choice : Option (ℕ × ℕ)) × IsChoice spec condition begin text choice
  some_choice = elim (greatest OfSome decide_of_some (length text + 2)) as (λ _. (choice : Option (ℕ × ℕ)) × IsChoice spec condition begin text choice) [
    | inl none ↦ (None, λ j rule n at fits. none (reach rule n) (reaches_within rule n fits.within) (is_of_some j rule n at fits))
    | inr best ↦ chosen best.0 best.2 best.3
  ]
