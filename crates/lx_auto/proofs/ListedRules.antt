-- The list of the rules that have matched, rule by rule.
use Rattle.std.proofs.Common.{◌≡◌, ℕ, ◌+◌, ◌<◌, ◌≤◌, ◌⊎◌, ◌↔◌, inl, inr, Bool, true, false, List, [], ◌∷◌, ◌++◌, Some, length, get_or, sym, ◌∙◌, subst, arith}
use Rattle.std.specs.Prelude.{slice_get, Contains}
use Rattle.std.proofs.lemmas.Bool.{cases_lt, false≢true}
use Rattle.std.proofs.lemmas.List.{get_or_append_left, get_or_push, length_push}
use Rattle.lx_automaton.proofs.Members.{contains_nil, contains_head, contains_tail, contains_cases, contains_at}
use Rattle.lx_auto.specs.Following.{EndsMarked, IsMatchedAt}
use Rattle.lx_auto.specs.PositionSets.{NumberedRule}
use Rattle.lx_auto.specs.RuleLists.{AreMatchedAt}
use Rattle.lx_auto.specs.RuleParts.{IsPartOf, ArePartsOf}
use Rattle.lx_auto.specs.SetSteps.{IsRising}
use Rattle.lx_auto.specs.declared.rules.rule_part.RulePart.{RulePart}
use Rattle.lx_auto.proofs.SetFollowed.{place_below}
use Rattle.lx_auto.proofs.StepAll.{some_at}

contains_push : (xs : List ℕ) (n q : ℕ) → Contains (xs ++ n ∷ []) q ↔ (Contains xs q ⊎ (q ≡ n))
contains_push [] n q = (
  (λ h. elim (contains_cases n q [] h) [ inl e ↦ inr (sym e) | inr c ↦ absurd (contains_nil q c) ]),
  (λ h. elim h [ inl c ↦ absurd (contains_nil q c) | inr e ↦ subst (λ z. Contains (n ∷ []) z) (sym e) (contains_head n []) ]),
)
contains_push (x ∷ xs) n q =
    let m = contains_push xs n q in (
      (λ h. elim (contains_cases x q (xs ++ n ∷ []) h) [
        | inl e ↦ inl (subst (λ z. Contains (x ∷ xs) z) e (contains_head x xs))
        | inr c ↦ elim (m.0 c) [ inl d ↦ inl (contains_tail x q xs d) | inr e ↦ inr e ]
      ]),
      (λ h. elim h [
        | inl c ↦ elim (contains_cases x q xs c) [
          | inl e ↦ subst (λ z. Contains (x ∷ (xs ++ n ∷ [])) z) e (contains_head x (xs ++ n ∷ []))
          | inr d ↦ contains_tail x q (xs ++ n ∷ []) (m.1 (inl d))
        ]
        | inr e ↦ contains_tail x q (xs ++ n ∷ []) (m.1 (inr e))
      ]),
    )

rising_push : (xs : List ℕ) (n : ℕ) → IsRising xs → ((q : ℕ) → Contains xs q → q < n) → IsRising (xs ++ n ∷ [])
rising_push xs n rising below i j less within =
    let long = length_push xs n in
    let hi : i < length xs = omega arith in
    let low : get_or (xs ++ n ∷ []) i 0 ≡ get_or xs i 0 = get_or_append_left xs (n ∷ []) 0 i hi in
    elim (cases_lt j (length xs)) [
      | inl h ↦
          let high : get_or (xs ++ n ∷ []) j 0 ≡ get_or xs j 0 = get_or_append_left xs (n ∷ []) 0 j h in
          let r = rising i j less h in
          omega arith
      | inr h ↦
          let at : length xs ≡ j = omega arith in
          let high : get_or (xs ++ n ∷ []) j 0 ≡ n = get_or_push xs n 0 j at in
          let b = below (get_or xs i 0) (contains_at xs i hi) in
          omega arith
    ]

-- none of the first n rules has matched
pub none_listed : (rules : List NumberedRule) (marks : List Bool) (n : ℕ) (found : List ℕ) → found ≡ [] → ((i : ℕ) → i < n → IsMatchedAt rules marks i → ⊥) → AreMatchedAt rules marks n found
none_listed rules marks n found empty none = subst (λ l. AreMatchedAt rules marks n l) (sym empty) (record {
  rising = λ i j less within. absurd (omega arith);
  each = λ i. ((λ h. absurd (contains_nil i h)), (λ h. absurd (none i h.0 h.1)));
})

module _ (marks : List Bool) (rules : List NumberedRule) (parts : List RulePart) (total n : ℕ) (part : RulePart) (found : List ℕ) (m : Bool) (are : ArePartsOf parts rules total)
    (within : n < length parts) (here : slice_get parts n ≡ Some part) (ends : (r : NumberedRule) → IsPartOf part r → (m ≡ true) ↔ EndsMarked marks r)
    (so_far : AreMatchedAt rules marks n found) where
  -- the next rule has matched
  pub listed_more : m ≡ true → AreMatchedAt rules marks (n + 1) (found ++ n ∷ [])
  listed_more is =
      let len = are.long in
      let r = some_at rules n (omega arith) in
      let matched = (ends r.0 (are.each n part r.0 here r.1)).0 is in
      record {
        rising = rising_push found n so_far.rising (λ q h. ((so_far.each q).0 h).0);
        each = λ i. let p = contains_push found n i in (
          (λ h. elim (p.0 h) [
            | inl c ↦ let t = (so_far.each i).0 c in let l = t.0 in ((omega arith), t.1)
            | inr e ↦ ((omega arith), subst (λ k. IsMatchedAt rules marks k) (sym e) (record { rule = r.0; at = r.1; ends = matched }))
          ]),
          (λ t. let b = t.0 in elim (cases_lt i n) [ inl l ↦ p.1 (inl ((so_far.each i).1 (l, t.1))) | inr l ↦ p.1 (inr (omega arith)) ]),
        );
      }

  -- it hasn't
  pub unlisted_more : m ≡ false → AreMatchedAt rules marks (n + 1) found
  unlisted_more is =
      let len = are.long in
      let r = some_at rules n (omega arith) in
      record {
        rising = so_far.rising;
        each = λ i. (
          (λ h. let t = (so_far.each i).0 h in let l = t.0 in ((omega arith), t.1)),
          (λ t. let b = t.0 in elim (cases_lt i n) [
            | inl l ↦ (so_far.each i).1 (l, t.1)
            | inr l ↦ absurd (unmatched i (omega arith) t.1)
          ]),
        );
      }
    where
      unmatched : (i : ℕ) → i ≡ n → IsMatchedAt rules marks i → ⊥
      unmatched i e h =
          let len = are.long in
          let r = some_at rules n (omega arith) in
          let at : slice_get rules n ≡ Some h.rule = subst (λ k. slice_get rules k ≡ Some h.rule) e h.at in
          let same : h.rule ≡ r.0 = (let f : Some h.rule ≡ Some r.0 = sym at ∙ r.1 in cc) in
          false≢true (sym is ∙ (ends r.0 (are.each n part r.0 here r.1)).1 (subst (λ x. EndsMarked marks x) same h.ends))

-- all rules were visited
pub all_listed : (rules : List NumberedRule) (marks : List Bool) (n : ℕ) (found : List ℕ) → length rules ≤ n → AreMatchedAt rules marks n found → AreMatchedAt rules marks (length rules) found
all_listed rules marks n found all so = record {
  rising = so.rising;
  each = λ i. (
    (λ h. let t = (so.each i).0 h in (place_below rules i t.1.rule t.1.at, t.1)),
    (λ t. let l = t.0 in (so.each i).1 ((omega arith), t.1)),
  );
}
