-- The flags of rules, rule by rule.
use Rattle.std.proofs.Common.{◌≡◌, ℕ, zero, suc, ◌+◌, ◌≤◌, ◌<◌, ◌↔◌, inl, inr, Bool, true, false, List, [], ◌∷◌, ◌++◌, Some, length, get_or, map, sym, ◌∙◌, ap, subst, arith}
use Rattle.std.proofs.lemmas.Bool.{cases_lt}
use Rattle.std.proofs.lemmas.List.{get_or_append_left, get_or_push, length_push}
use Rattle.std.specs.Prelude.{slice_get}
use Rattle.lx_rules.specs.Plain.{PlainRule, PlainSpec}
use Rattle.lx_rules.specs.declared.rule.Rule.{Rule}
use Rattle.lx_rules.specs.views.Rules.{rule_view}
use Rattle.lx_rules.specs.Starts.{AreActive, AreActiveBelow, IsActiveAt}

pub viewed_at : (rules : List Rule) (i : ℕ) (r : Rule) → i < length rules → r ≡ get_or rules i r → slice_get (map rule_view rules) i ≡ Some (rule_view r)
viewed_at [] i r h e = absurd (omega arith)
viewed_at (x ∷ rules) zero r h e = ap (λ y. Some (rule_view y)) (sym e)
viewed_at (x ∷ rules) (suc i) r h e = viewed_at rules i r (omega arith) e

pub active_more : (spec : PlainSpec) (condition : ℕ) (begin : Bool) (active : List Bool) (n : ℕ) (rule : PlainRule) (b : Bool) → slice_get spec.rules n ≡ Some rule →
    (b ≡ true) ↔ IsActiveAt spec rule condition begin → AreActiveBelow spec condition begin active n → AreActiveBelow spec condition begin (active ++ b ∷ []) (n + 1)
active_more spec condition begin active n rule b at is are = record {
  long = let l = are.long in length_push active b ∙ (omega arith);
  each = λ i r h found. let l = are.long in elim (cases_lt i n) [
    | inl k ↦
        let same = get_or_append_left active (b ∷ []) false i (omega arith) in
        let old = are.each i r k found in
        ((λ t. old.0 (sym same ∙ t)), (λ a. same ∙ old.1 a))
    | inr k ↦
        let there : i ≡ n = omega arith in
        let same : get_or (active ++ b ∷ []) i false ≡ b = get_or_push active b false i (omega arith) in
        let found_it : Some rule ≡ Some r = sym at ∙ ap (λ j. slice_get spec.rules j) (sym there) ∙ found in
        let one : rule ≡ r = cc in (
          (λ t. subst (λ x. IsActiveAt spec x condition begin) one (is.0 (sym same ∙ t))),
          (λ a. same ∙ is.1 (subst (λ x. IsActiveAt spec x condition begin) (sym one) a)),
        )
  ];
}

below_length : (xs : List PlainRule) (i : ℕ) (x : PlainRule) → slice_get xs i ≡ Some x → i < length xs
below_length [] i x h = absurd (cc)
below_length (y ∷ xs) zero x h = omega arith
below_length (y ∷ xs) (suc i) x h = let l = below_length xs i x h in omega arith

pub active_all : (spec : PlainSpec) (condition : ℕ) (begin : Bool) (active : List Bool) (n : ℕ) → length spec.rules ≤ n → AreActiveBelow spec condition begin active n →
    AreActive spec condition begin active
active_all spec condition begin active n all are = record { each = λ i rule at. are.each i rule (let l = below_length spec.rules i rule at in omega arith) at }
