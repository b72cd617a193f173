-- Tables have the invariant of their specification's kinds and rules.
use Rattle.std.proofs.Common.{◌≡◌, ℕ, ◌+◌, ◌<◌, ◌≤◌, ◌&&◌, nat_lt, nat_eq, if◌then◌else◌, Bool, true, false, Option, Some, None, List, [], ◌∷◌, length, map, refl, sym, subst, arith}
use Rattle.std.specs.Prelude.{IsTrue}
use Rattle.std.specs.List.{list_all, flat_map}
use Rattle.std.proofs.lemmas.Bool.{eqb-true}
use Rattle.std.proofs.lemmas.List.{length-append, length-map}
use Rattle.lx_rules.specs.Plain.{PlainRule, PlainSpec}
use Rattle.lx_rules.specs.Identifiers.{is_identifier}
use Rattle.lx_rules.specs.Invariant.{are_distinct, are_steps, are_conditions, is_rule, returned_names, next_number, is_number, are_kinds, IsWellFormed}
use Rattle.lx_rules.specs.declared.rule.Kind.TheVariants.{Name, Number}
use Rattle.lx_rules.specs.declared.rule.Step.{Step}
use Rattle.lx_rules.specs.declared.rule.Step.TheVariants.{Echo, Begin, Return}
use Rattle.lx_automaton.specs.Automata.{Machine, IsMachine, HasByteClasses, accepted_by}
use Rattle.lx_tables.specs.Model.{IsTable, table_rule}

left-of : (a b : Bool) → IsTrue (a && b) → IsTrue a
left-of true b h = refl
left-of false b h = h

right-of : (a b : Bool) → IsTrue (a && b) → IsTrue b
right-of true b h = h
right-of false b h = cc

both : (a b : Bool) → IsTrue a → IsTrue b → IsTrue (a && b)
both true b h g = g
both false b h g = h

-- numbers that appear one by one are no more than the elements of their list
next_at_most : (ks : List ℕ) (n k : ℕ) → next_number n ks ≡ Some k → k ≤ n + length ks
next_at_most [] n k e = let f : n ≡ k = cc in omega arith
next_at_most (j ∷ ks) n k e = at (nat_lt j n) (nat_eq j n) (next_at_most ks n k) (next_at_most ks (n + 1) k) e
  where
    at : (b c : Bool) → (next_number n ks ≡ Some k → k ≤ n + length ks) → (next_number (n + 1) ks ≡ Some k → k ≤ n + 1 + length ks) →
        (if b then next_number n ks else if c then next_number (n + 1) ks else None) ≡ Some k → k ≤ n + length (j ∷ ks)
    at true c h g e = let l = h e in omega arith
    at false true h g e = let l = g e in omega arith
    at false false h g e = let f : None ≡ Some k = e in cc

-- steps return at most one name
one_returned : (c k : ℕ) (steps : List Step) → IsTrue (are_steps c k steps) → length (returned_names steps) ≤ 1
one_returned c k [] h = omega arith
one_returned c k (Echo ∷ steps) h = one_returned c k steps h
one_returned c k (Begin d ∷ steps) h = one_returned c k steps (right-of (nat_lt d c) (are_steps c k steps) h)
one_returned c k (Return (Name n) ∷ []) h = omega arith
one_returned c k (Return (Number n) ∷ []) h = omega arith
one_returned c k (Return (Name n) ∷ step ∷ steps) h = cc
one_returned c k (Return (Number n) ∷ step ∷ steps) h = cc

rule_steps : (c k : ℕ) (rule : PlainRule) → IsTrue (is_rule c k rule) → IsTrue (are_steps c k rule.steps)
rule_steps c k rule h = left-of (are_steps c k rule.steps) (are_conditions c rule.conditions) (right-of (nat_lt 0 rule.line) (are_steps c k rule.steps && are_conditions c rule.conditions) h)

all_returned : (c k : ℕ) (rules : List PlainRule) → IsTrue (list_all (is_rule c k) rules) → length (flat_map (λ r. returned_names r.steps) rules) ≤ length rules
all_returned c k [] h = omega arith
all_returned c k (rule ∷ rules) h =
    let a = one_returned c k rule.steps (rule_steps c k rule (left-of (is_rule c k rule) (list_all (is_rule c k) rules) h)) in
    let b = all_returned c k rules (right-of (is_rule c k rule) (list_all (is_rule c k) rules) h) in
    omega (arith, length-append (returned_names rule.steps) (flat_map (λ r. returned_names r.steps) rules))

steps_kept : (c k : ℕ) (rules : List PlainRule) → IsTrue (list_all (is_rule c k) rules) → IsTrue (list_all (λ rule. are_steps c k rule.steps) (map table_rule rules))
steps_kept c k [] h = refl
steps_kept c k (rule ∷ rules) h =
    both (are_steps c k rule.steps) (list_all (λ rule. are_steps c k rule.steps) (map table_rule rules))
    (rule_steps c k rule (left-of (is_rule c k rule) (list_all (is_rule c k) rules) h)) (steps_kept c k rules (right-of (is_rule c k rule) (list_all (is_rule c k) rules) h))

few_at : (n bound : ℕ) (o : Option ℕ) → IsTrue (is_number n o) → ((k : ℕ) → o ≡ Some k → k ≤ bound) → n ≤ bound
few_at n bound None h most = cc
few_at n bound (Some k) h most = let e = eqb-true k n h in let l = most k refl in omega arith

pub record Kinds (spec : PlainSpec) : Type 0 where
  pub few : length spec.kinds ≤ 4096
  pub identifiers : IsTrue (list_all is_identifier spec.kinds)
  pub distinct : IsTrue (are_distinct spec.kinds)

kinds_kept : (spec : PlainSpec) → IsWellFormed spec → Kinds spec
unfolding are_kinds
kinds_kept spec well =
    let names = flat_map (λ r. returned_names r.steps) spec.rules in
    let h = well.kinds_in_order in
    let g = right-of (list_all is_identifier spec.kinds) (are_distinct spec.kinds && is_number (length spec.kinds) (next_number 0 names)) h in
    let most : length names ≤ length spec.rules = all_returned (length spec.conditions) (length spec.kinds) spec.rules well.rules_in_range in
    record {
      few = (let f = few_at (length spec.kinds) (length names) (next_number 0 names) (right-of (are_distinct spec.kinds) (is_number (length spec.kinds) (next_number 0 names)) g)
          (λ k e. let l = next_at_most names 0 k e in omega arith) in let r = well.few_rules in omega arith);
      identifiers = left-of (list_all is_identifier spec.kinds) (are_distinct spec.kinds && is_number (length spec.kinds) (next_number 0 names)) h;
      distinct = left-of (are_distinct spec.kinds) (is_number (length spec.kinds) (next_number 0 names)) g;
    }

-- tables with an automaton of the specification, and its kinds and rules
pub table_kept : (spec : PlainSpec) (q : Machine) → IsWellFormed spec → IsMachine q → HasByteClasses q → length q.starts ≡ length spec.conditions →
    ((s r : ℕ) → accepted_by q s ≡ Some r → r < length spec.rules) → IsTable (record { machine = q; kinds = spec.kinds; rules = map table_rule spec.rules })
table_kept spec q well is has conditions accepted =
    let kinds = kinds_kept spec well in
    let long = length-map spec.rules table_rule in
    record {
      machine = is;
      classes = has;
      few_kinds = kinds.few;
      identifiers = kinds.identifiers;
      distinct = kinds.distinct;
      few_rules = (let f = well.few_rules in omega arith);
      steps = subst (λ n. IsTrue (list_all (λ rule. are_steps n (length spec.kinds) rule.steps) (map table_rule spec.rules))) (sym conditions)
          (steps_kept (length spec.conditions) (length spec.kinds) spec.rules well.rules_in_range);
      accepted = λ s r e. let l = accepted s r e in omega arith;
    }
