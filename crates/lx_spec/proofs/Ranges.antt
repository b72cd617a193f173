-- The rules of a specification name conditions and kinds that exist.
use Rattle.std.proofs.Common.{◌≡◌, ◌∙◌, ℕ, suc, ◌<◌, Bool, true, false, ◌&&◌, not, ◌||◌, nat_lt, nat_eq, List, [], ◌∷◌, length, map, Option, Some, refl, ap, sym, subst, arith}
use Rattle.std.specs.Prelude.{IsTrue}
use Rattle.std.specs.List.{list_all, list_any}
use Rattle.std.specs.Cmp.Lexicographic.{pointwise}
use Rattle.std.proofs.lemmas.Bool.Decides.{nat_tests}
use Rattle.lx_rules.specs.Plain.{StartCondition, PlainDefinition, PlainRule}
use Rattle.lx_rules.specs.Identifiers.{is_identifier}
use Rattle.lx_rules.specs.Invariant.{are_distinct, are_definitions, are_steps, are_conditions, is_rule, are_kinds, is_number}
use Rattle.lx_rules.specs.Nesting.{expressions_of}
use Rattle.lx_spec.specs.Sections.{RawDefinition, RawRule}
use Rattle.lx_spec.specs.views.Actions.{value_view, statement_view, statements_view, action_view}
use Rattle.lx_spec.specs.Outcome.{ResolvedRule, AreResolved, AreReached, none, reached, passed, patterns_in, actions_in, first_own, statements_in, returned_by, with_kind, kinds_behind, kinds_of, steps_of, rules_of}
use Rattle.lx_spec.specs.WellFormed.{are_raw_definitions}
use Rattle.lx_ere.specs.Regex.{Regex}
use Rattle.lx_spec.specs.views.ResolvedRules.{resolved_view}
use Rattle.lx_spec.specs.views.Sections.{raw_rule_view}
use Rattle.lx_spec.specs.declared.returned_value.Value.{Value as CodeValue}
use Rattle.lx_spec.specs.declared.returned_value.Value.TheVariants as value
use Rattle.lx_spec.specs.declared.action.Statement.{Statement as CodeStatement}
use Rattle.lx_spec.specs.declared.action.Statement.TheVariants as statement
use Rattle.lx_spec.specs.declared.action.Action.{Action as CodeAction}
use Rattle.lx_spec.specs.declared.action.Action.TheVariants.{Shared, Own}
use Rattle.lx_spec.specs.declared.resolved_rule.ResolvedRule.{ResolvedRule as CodeRule}
use Rattle.lx_spec.specs.declared.parsed_sections.RawRule.{RawRule as CodeRaw}
use Rattle.lx_spec.proofs.Conjunctions.{both, left-of, right-of}
use Rattle.lx_spec.proofs.Listed.{conditions-listed}
use Rattle.lx_spec.proofs.Distinct.{or-left, or-right, not-true}
use Rattle.lx_spec.proofs.Returned.{is_value, is_statement, are_statements, is_found, steps-range, returned-found, kinds-distinct, kinds-identifiers, kinds-in-order}

value-is : (v : CodeValue) → IsTrue (is_value (value_view v))
value-is (value.Name i) = i.named
value-is (value.Number n) = let small = n.below in let t : nat_lt n.value 2147483648 ≡ true = grind (arith, nat_tests) in t

statement-is : (s : CodeStatement) → IsTrue (is_statement (statement_view s))
statement-is statement.Nothing = refl
statement-is statement.Echo = refl
statement-is (statement.Begin c) = refl
statement-is (statement.Return v) = value-is v

statements-are : (ss : List CodeStatement) → IsTrue (are_statements (statements_view ss))
statements-are [] = refl
statements-are (s ∷ ss) = both (is_statement (statement_view s)) (are_statements (statements_view ss)) (statement-is s) (statements-are ss)

own-are : (resolved : List CodeRule) → IsTrue (are_statements (first_own (actions_in (map resolved_view resolved))))
own-are [] = refl
own-are (r ∷ resolved) = by r.action (own-are resolved) where
  by : (a : CodeAction) → IsTrue (are_statements (first_own (actions_in (map resolved_view resolved)))) → IsTrue (are_statements (first_own (action_view a ∷ actions_in (map resolved_view resolved))))
  by Shared rest = rest
  by (Own ss) rest = statements-are ss.items

lists-are : (resolved : List CodeRule) → IsTrue (list_all are_statements (statements_in (map resolved_view resolved)))
lists-are [] = refl
lists-are (r ∷ resolved) = both (are_statements (first_own (actions_in (map resolved_view (r ∷ resolved))))) (list_all are_statements (statements_in (map resolved_view resolved))) (own-are (r ∷ resolved)) (lists-are resolved)

plain-range : (start_conditions : List StartCondition) (raws : List CodeRaw) (resolved : List CodeRule) (kinds all : List (List ℕ)) → 0 < length start_conditions → AreResolved start_conditions (map raw_rule_view raws) (map resolved_view resolved) →
    all ≡ kinds_behind kinds (statements_in (map resolved_view resolved)) → IsTrue (list_all (is_rule (length start_conditions) (length all)) (rules_of start_conditions all (map raw_rule_view raws) (map resolved_view resolved)))
plain-range start_conditions [] [] kinds all some are e = refl
plain-range start_conditions [] (r ∷ resolved) kinds all some are e = absurd are
plain-range start_conditions (raw ∷ raws) [] kinds all some are e = absurd are
plain-range start_conditions (raw ∷ raws) (r ∷ resolved) kinds all some are e =
    let ss = first_own (actions_in (map resolved_view (r ∷ resolved))) in
    let counted = raw.counted in
    let line : nat_lt 0 raw.line ≡ true = grind (arith, nat_tests) in
    let steps : IsTrue (are_steps (length start_conditions) (length all) (steps_of start_conditions all ss)) = steps-range start_conditions all ss some (own-are (r ∷ resolved))
    (λ text f. ap (λ (l : List (List ℕ)). is_found l text) e ∙ returned-found ss (statements_in (map resolved_view resolved)) kinds text f) in
    let listed : IsTrue (are_conditions (length start_conditions) (resolved_view r).conditions) = subst (λ (o : Option (List ℕ)). IsTrue (are_conditions (length start_conditions) o)) (sym (are.0).conditions) (conditions-listed start_conditions (raw_rule_view raw).prefix) in
    both (nat_lt 0 raw.line && (are_steps (length start_conditions) (length all) (steps_of start_conditions all ss) && are_conditions (length start_conditions) (resolved_view r).conditions)) _
    (both (nat_lt 0 raw.line) _ line (both (are_steps (length start_conditions) (length all) (steps_of start_conditions all ss)) _ steps listed))
    (plain-range start_conditions raws resolved (with_kind kinds (returned_by ss)) all some are.1 e)

pub rules-in-range : (start_conditions : List StartCondition) (raws : List CodeRaw) (resolved : List CodeRule) (conditions : List StartCondition) (kinds : List (List ℕ)) (rules : List PlainRule) → conditions ≡ start_conditions → kinds ≡ kinds_of (map resolved_view resolved) → 0 < length start_conditions →
    AreResolved start_conditions (map raw_rule_view raws) (map resolved_view resolved) → rules ≡ rules_of start_conditions (kinds_of (map resolved_view resolved)) (map raw_rule_view raws) (map resolved_view resolved) → IsTrue (list_all (is_rule (length conditions) (length kinds)) rules)
rules-in-range start_conditions raws resolved conditions kinds rules cs ks some are e =
    subst (λ (l : List StartCondition). IsTrue (list_all (is_rule (length l) (length kinds)) rules)) (sym cs) (subst (λ (l : List (List ℕ)). IsTrue (list_all (is_rule (length start_conditions) (length l)) rules)) (sym ks)
    (subst (λ (l : List PlainRule). IsTrue (list_all (is_rule (length start_conditions) (length (kinds_of (map resolved_view resolved)))) l)) (sym e) (plain-range start_conditions raws resolved [] (kinds_of (map resolved_view resolved)) some are refl)))

number-is : (n : ℕ) (o : Option ℕ) → o ≡ Some n → IsTrue (is_number n o)
number-is n o e = subst (λ (x : Option ℕ). IsTrue (is_number n x)) (sym e) (let t : nat_eq n n ≡ true = grind (arith, nat_tests) in t)

pub kinds-are : (start_conditions : List StartCondition) (raws : List RawRule) (resolved : List CodeRule) (kinds : List (List ℕ)) (rules : List PlainRule) → length raws ≡ length (map resolved_view resolved) → kinds ≡ kinds_of (map resolved_view resolved) →
    rules ≡ rules_of start_conditions (kinds_of (map resolved_view resolved)) raws (map resolved_view resolved) → IsTrue (are_kinds kinds rules)
unfolding are_kinds
kinds-are start_conditions raws resolved kinds rules len e f =
    let all = kinds_of (map resolved_view resolved) in
    let whole : IsTrue (are_kinds all (rules_of start_conditions all raws (map resolved_view resolved))) =
    both (list_all is_identifier all) _ (kinds-identifiers (statements_in (map resolved_view resolved)) [] (lists-are resolved) refl)
    (both (are_distinct all) _ (kinds-distinct (statements_in (map resolved_view resolved)) [] refl) (number-is (length all) _ (kinds-in-order start_conditions raws (map resolved_view resolved) [] all len refl))) in
    subst (λ (k : List (List ℕ)). IsTrue (are_kinds k rules)) (sym e) (subst (λ (r : List PlainRule). IsTrue (are_kinds all r)) (sym f) whole)

pub rules-length : (start_conditions : List StartCondition) (kinds : List (List ℕ)) (raws : List RawRule) (resolved : List ResolvedRule) → AreResolved start_conditions raws resolved → length (rules_of start_conditions kinds raws resolved) ≡ length raws
rules-length start_conditions kinds [] [] are = refl
rules-length start_conditions kinds [] (s ∷ resolved) are = absurd are
rules-length start_conditions kinds (raw ∷ raws) [] are = absurd are
rules-length start_conditions kinds (raw ∷ raws) (s ∷ resolved) are = ap suc (rules-length start_conditions kinds raws resolved are.1)

pub same-expressions : (start_conditions : List StartCondition) (kinds : List (List ℕ)) (raws : List RawRule) (resolved : List ResolvedRule) (rules : List PlainRule) → AreResolved start_conditions raws resolved → rules ≡ rules_of start_conditions kinds raws resolved → expressions_of rules ≡ patterns_in resolved
same-expressions start_conditions kinds raws resolved rules are e = ap expressions_of e ∙ resolves raws resolved are where
  resolves : (raws : List RawRule) (resolved : List ResolvedRule) → AreResolved start_conditions raws resolved → map (λ (r : PlainRule). r.reading.tree) (rules_of start_conditions kinds raws resolved) ≡ patterns_in resolved
  resolves [] [] are = refl
  resolves [] (s ∷ resolved) are = absurd are
  resolves (raw ∷ raws) [] are = absurd are
  resolves (raw ∷ raws) (s ∷ resolved) are = ap (λ (l : List Regex). s.reading.tree ∷ l) (resolves raws resolved are.1)

-- the reached definitions have distinct names, if all have
definitions-among : (Reached : ℕ → Type 0) (i : ℕ) (raw_definitions : List RawDefinition) (trees : List (Option Regex)) (definitions : List PlainDefinition) (n : List ℕ) → AreReached Reached i raw_definitions trees definitions →
    list_any (λ other. pointwise nat_eq other n) (map (λ d. d.name) raw_definitions) ≡ false → list_any (λ other. pointwise nat_eq other n) (map (λ d. d.name) definitions) ≡ false
definitions-among R _ _ _ _ n (none i) h = refl
definitions-among R _ _ _ _ n (reached i d tree raw_definitions' trees' definitions' at more) h =
    ap (λ (b : Bool). b || list_any (λ other. pointwise nat_eq other n) (map (λ e. e.name) definitions')) (or-left (pointwise nat_eq d.name n) (list_any (λ other. pointwise nat_eq other n) (map (λ e. e.name) raw_definitions')) h)
    ∙ definitions-among R (suc i) raw_definitions' trees' definitions' n more (or-right (pointwise nat_eq d.name n) (list_any (λ other. pointwise nat_eq other n) (map (λ e. e.name) raw_definitions')) h)
definitions-among R _ _ _ _ n (passed i d t raw_definitions' trees' definitions' at more) h =
    definitions-among R (suc i) raw_definitions' trees' definitions' n more (or-right (pointwise nat_eq d.name n) (list_any (λ other. pointwise nat_eq other n) (map (λ e. e.name) raw_definitions')) h)

pub definitions-distinct : (Reached : ℕ → Type 0) (i : ℕ) (raw_definitions : List RawDefinition) (trees : List (Option Regex)) (definitions : List PlainDefinition) → AreReached Reached i raw_definitions trees definitions → IsTrue (are_raw_definitions raw_definitions) → IsTrue (are_definitions definitions)
unfolding are_definitions
definitions-distinct R _ _ _ _ (none i) h = refl
definitions-distinct R _ _ _ _ (reached i d tree raw_definitions' trees' definitions' at more) h =
    both (not (list_any (λ other. pointwise nat_eq other d.name) (map (λ e. e.name) definitions'))) (are_distinct (map (λ e. e.name) definitions'))
    (ap not (definitions-among R (suc i) raw_definitions' trees' definitions' d.name more (not-true (list_any (λ other. pointwise nat_eq other d.name) (map (λ e. e.name) raw_definitions')) (left-of (not (list_any (λ other. pointwise nat_eq other d.name) (map (λ e. e.name) raw_definitions'))) (are_distinct (map (λ e. e.name) raw_definitions')) h))))
    (definitions-distinct R (suc i) raw_definitions' trees' definitions' more (right-of (not (list_any (λ other. pointwise nat_eq other d.name) (map (λ e. e.name) raw_definitions'))) (are_distinct (map (λ e. e.name) raw_definitions')) h))
definitions-distinct R _ _ _ _ (passed i d t raw_definitions' trees' definitions' at more) h =
    definitions-distinct R (suc i) raw_definitions' trees' definitions' more (right-of (not (list_any (λ other. pointwise nat_eq other d.name) (map (λ e. e.name) raw_definitions'))) (are_distinct (map (λ e. e.name) raw_definitions')) h)
