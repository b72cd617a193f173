-- Rules that are sound are those of a specification without definitions and kinds.
use Rattle.std.proofs.Common.{◌≡◌, ◌∙◌, ℕ, zero, suc, Bool, true, false, ◌&&◌, nat_lt, List, [], ◌∷◌, ◌++◌, refl, ap}
use Rattle.std.specs.Prelude.{IsTrue}
use Rattle.std.specs.List.{flat_map, list_all}
use Rattle.lx_ere.specs.Bounds.{has_ordered_bounds}
use Rattle.lx_ere.specs.Regex.{Regex}
use Rattle.lx_lex.specs.Checked.{is_idle, is_plain_tree, is_sound}
use Rattle.lx_rules.specs.Invariant.{are_conditions, are_kinds, are_ordered, are_steps, is_number, is_rule, next_number, returned_names}
use Rattle.lx_rules.specs.Limits.{max_name_depth}
use Rattle.lx_rules.specs.Names.{names_of}
use Rattle.lx_rules.specs.Nesting.{are_nested, expressions_of, holds_of, is_no_name, is_within, tree_named}
use Rattle.lx_rules.specs.Plain.{PlainRule}
use Rattle.lx_rules.specs.declared.rule.Step.{Step}

pub both : (a b : Bool) → IsTrue a → IsTrue b → IsTrue (a && b)
both true b h g = g
both false b h g = h

left-of : (a b : Bool) → IsTrue (a && b) → IsTrue a
left-of true b h = refl
left-of false b h = h

right-of : (a b : Bool) → IsTrue (a && b) → IsTrue b
right-of true b h = h
right-of false b h = cc

no-names : (p : List ℕ → Bool) (names : List (List ℕ)) → IsTrue (is_no_name names) → IsTrue (list_all p names)
no-names p [] h = refl
no-names p (name ∷ names) h = absurd (cc)

within : (n : ℕ) (tree : Regex) → IsTrue (is_no_name (names_of tree)) → IsTrue (is_within n [] tree)
within zero tree h = h
within (suc n) tree h = no-names (λ name. holds_of (is_within n []) (tree_named [] name)) (names_of tree) h

steps-are : (n : ℕ) (steps : List Step) → IsTrue (is_idle steps) → IsTrue (are_steps n 0 steps)
steps-are n [] h = refl
steps-are n (step ∷ steps) h = absurd (cc)

none-returned : (steps : List Step) → IsTrue (is_idle steps) → returned_names steps ≡ []
none-returned [] h = refl
none-returned (step ∷ steps) h = absurd (cc)

module _ (n : ℕ) (r : PlainRule) (h : IsTrue (is_sound n r)) where
  behind-line : IsTrue (are_conditions n r.conditions && (is_idle r.steps && is_plain_tree r.reading.tree))
  behind-line = right-of (nat_lt 0 r.line) _ h

  behind-conditions : IsTrue (is_idle r.steps && is_plain_tree r.reading.tree)
  behind-conditions = right-of (are_conditions n r.conditions) _ behind-line

  idle : IsTrue (is_idle r.steps)
  idle = left-of (is_idle r.steps) _ behind-conditions

  tree-is : IsTrue (is_plain_tree r.reading.tree)
  tree-is = right-of (is_idle r.steps) _ behind-conditions

  rule-is : IsTrue (is_rule n 0 r)
  rule-is = both (nat_lt 0 r.line) _ (left-of (nat_lt 0 r.line) _ h)
      (both (are_steps n 0 r.steps) _ (steps-are n r.steps idle) (left-of (are_conditions n r.conditions) _ behind-line))

  tree-within : IsTrue (is_within max_name_depth [] r.reading.tree)
  tree-within = within max_name_depth r.reading.tree (left-of (is_no_name (names_of r.reading.tree)) _ tree-is)

  tree-ordered : IsTrue (has_ordered_bounds r.reading.tree)
  tree-ordered = right-of (is_no_name (names_of r.reading.tree)) _ tree-is

pub rules-in-range : (n : ℕ) (rules : List PlainRule) → IsTrue (list_all (is_sound n) rules) → IsTrue (list_all (is_rule n 0) rules)
rules-in-range n [] h = refl
rules-in-range n (r ∷ rules) h = both (is_rule n 0 r) _ (rule-is n r (left-of (is_sound n r) _ h)) (rules-in-range n rules (right-of (is_sound n r) _ h))

all-within : (n : ℕ) (rules : List PlainRule) → IsTrue (list_all (is_sound n) rules) → IsTrue (list_all (is_within max_name_depth []) (expressions_of rules))
all-within n [] h = refl
all-within n (r ∷ rules) h = both (is_within max_name_depth [] r.reading.tree) _ (tree-within n r (left-of (is_sound n r) _ h)) (all-within n rules (right-of (is_sound n r) _ h))

pub are-nested : (n : ℕ) (rules : List PlainRule) → IsTrue (list_all (is_sound n) rules) → IsTrue (are_nested [] (expressions_of rules))
unfolding are_nested
are-nested n rules h = all-within n rules h

all-ordered : (n : ℕ) (rules : List PlainRule) → IsTrue (list_all (is_sound n) rules) → IsTrue (list_all has_ordered_bounds (expressions_of rules))
all-ordered n [] h = refl
all-ordered n (r ∷ rules) h = both (has_ordered_bounds r.reading.tree) _ (tree-ordered n r (left-of (is_sound n r) _ h)) (all-ordered n rules (right-of (is_sound n r) _ h))

pub are-ordered : (n : ℕ) (rules : List PlainRule) → IsTrue (list_all (is_sound n) rules) → IsTrue (are_ordered [] (expressions_of rules))
unfolding are_ordered
are-ordered n rules h = all-ordered n rules h

no-kinds : (n : ℕ) (rules : List PlainRule) → IsTrue (list_all (is_sound n) rules) → flat_map (λ r. returned_names r.steps) rules ≡ []
no-kinds n [] h = refl
no-kinds n (r ∷ rules) h =
    ap (λ names. names ++ flat_map (λ q. returned_names q.steps) rules) (none-returned r.steps (idle n r (left-of (is_sound n r) _ h)))
    ∙ no-kinds n rules (right-of (is_sound n r) _ h)

pub are-kinds : (n : ℕ) (rules : List PlainRule) → IsTrue (list_all (is_sound n) rules) → IsTrue (are_kinds [] rules)
unfolding are_kinds
are-kinds n rules h = ap (λ numbers. is_number 0 (next_number 0 numbers)) (no-kinds n rules h)
