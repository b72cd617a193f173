-- The rules of a specification, from the last one to the first.
use Rattle.std.proofs.Common.{◌≡◌, ◌∙◌, ℕ, zero, suc, ◌-◌, ◌<◌, List, [], ◌∷◌, ◌++◌, length, map, take, drop, get_or, Some, refl, ap, sym, subst, arith}
use Rattle.std.specs.Prelude.{Result, MatchResult, IfOk, slice_get, reverse}
use Rattle.std.proofs.lemmas.List.{reverse-append}
use Rattle.std.proofs.lemmas.Result.{MatchResult-weaker}
use Rattle.lx_rules.specs.Plain.{StartCondition, PlainRule}
use Rattle.lx_rules.specs.views.Rules.{rule_view}
use Rattle.lx_rules.specs.declared.rule.Rule.{Rule}
use Rattle.lx_rules.specs.declared.rule.Step.{Step}
use Rattle.lx_spec.specs.Sections.{RawRule}
use Rattle.lx_spec.specs.Actions.{Action, shared, own}
use Rattle.lx_spec.specs.Outcome.{ResolvedRule, actions_in, first_own, steps_of, rules_of, with_kind, returned_by, kinds_behind, statements_in}
use Rattle.lx_spec.specs.views.Steps.{steps_at_end, steps_before}
use Rattle.lx_spec.specs.views.Actions.{action_view}
use Rattle.lx_spec.specs.views.ResolvedRules.{resolved_view}
use Rattle.lx_spec.specs.declared.resolved_rule.ResolvedRule.{ResolvedRule as CodeRule}
use Rattle.lx_spec.proofs.Returned.{kinds-own}

last-at : (x : Rule) (rules : List Rule) (r : Rule) → slice_get (x ∷ rules) (length rules) ≡ Some r → steps_at_end (map rule_view (x ∷ rules)) ≡ r.action
last-at x [] r e = let same : x ≡ r = cc in ap (λ (y : Rule). y.action) same
last-at x (y ∷ rules) r e = last-at y rules r e

-- the steps of the last rule
pub last-rule : (rules : List Rule) (r : Rule) → slice_get rules (length rules - 1) ≡ Some r → steps_at_end (map rule_view rules) ≡ r.action
last-rule [] r e = cc
last-rule (x ∷ rules) r e = last-at x rules r (subst (λ (n : ℕ). slice_get (x ∷ rules) n ≡ Some r) (omega arith) e)

-- a clone of the steps of the last rule
pub last-shared : {E : Type 0} (Q : E → Type 0) (result : Result (List Step) E) (rules : List Rule) (r : Rule) → Some r ≡ slice_get rules (length rules - 1) → MatchResult result (λ steps. steps ≡ r.action) Q →
    IfOk result (λ steps. steps ≡ steps_at_end (map rule_view rules))
last-shared Q result rules r at clone = MatchResult-weaker result clone (λ steps e. e ∙ sym (last-rule rules r (sym at))) (λ _ _. tt)

pub end-push : (rules : List PlainRule) (r : PlainRule) → steps_at_end (rules ++ r ∷ []) ≡ r.steps
end-push [] r = refl
end-push (x ∷ []) r = refl
end-push (x ∷ y ∷ rules) r = end-push (y ∷ rules) r

pub before-is : (start_conditions : List StartCondition) (kinds : List (List ℕ)) (a : Action) (actions : List Action) (next : List Step) → next ≡ steps_of start_conditions kinds (first_own actions) → steps_before start_conditions kinds a next ≡ steps_of start_conditions kinds (first_own (a ∷ actions))
before-is start_conditions kinds shared actions next e = e
before-is start_conditions kinds (own ss) actions next e = refl

-- the elements from place i on, if there is one at that place
pub drop-item : {X : Type 0} (xs : List X) (i : ℕ) (d : X) → i < length xs → drop i xs ≡ get_or xs i d ∷ drop (suc i) xs
drop-item [] i d less = absurd (omega arith)
drop-item (x ∷ xs) zero d less = refl
drop-item (x ∷ xs) (suc i) d less = drop-item xs i d (omega arith)

-- the elements from place n on, given those before the next place
pub drop-last : {X : Type 0} (all front : List X) (x : X) (n : ℕ) → length front ≡ n → front ++ x ∷ [] ≡ take (suc n) all → drop n all ≡ x ∷ drop (suc n) all
drop-last {X} [] [] x zero len e = cc
drop-last {X} (y ∷ all) [] x zero len e = let same : x ≡ y = cc in ap (λ (z : X). z ∷ all) (sym same)
drop-last {X} all [] x (suc n) len e = absurd (omega arith)
drop-last {X} all (z ∷ front) x zero len e = absurd (omega arith)
drop-last {X} [] (z ∷ front) x (suc n) len e = let no : z ∷ (front ++ x ∷ []) ≡ [] = e in cc
drop-last {X} (y ∷ all) (z ∷ front) x (suc n) len e = drop-last all front x n (omega arith) (let tails : front ++ x ∷ [] ≡ take (suc n) all = cc in tails)

pub take-front : {X : Type 0} (all front : List X) (x : X) (n : ℕ) → length front ≡ n → front ++ x ∷ [] ≡ take (suc n) all → front ≡ take n all
take-front {X} all [] x zero len e = refl
take-front {X} all [] x (suc n) len e = absurd (omega arith)
take-front {X} all (z ∷ front) x zero len e = absurd (omega arith)
take-front {X} [] (z ∷ front) x (suc n) len e = let no : z ∷ (front ++ x ∷ []) ≡ [] = e in cc
take-front {X} (y ∷ all) (z ∷ front) x (suc n) len e = let same : z ≡ y = cc in
    ap (λ (w : X). w ∷ front) same ∙ ap (λ (l : List X). y ∷ l) (take-front all front x n (omega arith) (let tails : front ++ x ∷ [] ≡ take (suc n) all = cc in tails))

pub reverse-push : {X : Type 0} (xs : List X) (x : X) → reverse (xs ++ x ∷ []) ≡ x ∷ reverse xs
reverse-push xs x = reverse-append xs (x ∷ [])

-- one more rule before those from place n + 1 on
pub rules-more : (start_conditions : List StartCondition) (kinds : List (List ℕ)) (raws : List RawRule) (resolved : List ResolvedRule) (raw : RawRule) (s : ResolvedRule) (raw-rest : List RawRule) (resolved-rest : List ResolvedRule) (rule : PlainRule) (rules : List PlainRule) →
    raws ≡ raw ∷ raw-rest → resolved ≡ s ∷ resolved-rest → rules ≡ rules_of start_conditions kinds raw-rest resolved-rest →
    rule ≡ record { line = raw.line; conditions = s.conditions; reading = s.reading; steps = steps_of start_conditions kinds (first_own (actions_in (s ∷ resolved-rest))) } →
    rule ∷ rules ≡ rules_of start_conditions kinds raws resolved
rules-more start_conditions kinds raws resolved raw s raw-rest resolved-rest rule rules e f g h =
    ap (λ (r : PlainRule). r ∷ rules) h ∙ ap (λ (l : List PlainRule). record { line = raw.line; conditions = s.conditions; reading = s.reading; steps = steps_of start_conditions kinds (first_own (actions_in (s ∷ resolved-rest))) } ∷ l) g
    ∙ ap (λ (l : List RawRule). rules_of start_conditions kinds l (s ∷ resolved-rest)) (sym e) ∙ ap (λ (l : List ResolvedRule). rules_of start_conditions kinds raws l) (sym f)

-- one more rule whose kind was added, if its action is its own
pub kinds-next : (resolved : List CodeRule) (i : ℕ) (d : CodeRule) (old new all : List (List ℕ)) → i < length resolved →
    new ≡ with_kind old (returned_by (first_own (action_view (get_or resolved i d).action ∷ []))) →
    kinds_behind old (statements_in (map resolved_view (drop i resolved))) ≡ all → kinds_behind new (statements_in (map resolved_view (drop (suc i) resolved))) ≡ all
kinds-next resolved i d old new all less e f =
    let rest = drop (suc i) resolved in
    ap (λ (k : List (List ℕ)). kinds_behind k (statements_in (map resolved_view rest))) e ∙ kinds-own (map resolved_view rest) (resolved_view (get_or resolved i d)) old
    ∙ ap (λ (l : List CodeRule). kinds_behind old (statements_in (map resolved_view l))) (sym (drop-item resolved i d less)) ∙ f
