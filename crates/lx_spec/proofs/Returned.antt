-- The kinds that rules return, and their places in the list of kinds.
use Rattle.std.proofs.Common.{◌≡◌, ◌∙◌, ℕ, suc, ◌+◌, ◌<◌, Bool, true, false, cond, not, ◌||◌, nat_eq, nat_lt, List, [], ◌∷◌, ◌++◌, length, Option, Some, None, refl, ap, sym, subst, append_assoc, arith}
use Rattle.std.specs.Prelude.{IsTrue, unwrap_or}
use Rattle.std.specs.List.{list_all, list_any, position, position_or_len, flat_map}
use Rattle.std.specs.Cmp.Lexicographic.{pointwise}
use Rattle.std.proofs.lemmas.List.{append-nil, length-append}
use Rattle.std.proofs.lemmas.Bool.Decides.{nat_tests}
use Rattle.lx_rules.specs.Plain.{StartCondition, PlainRule}
use Rattle.lx_rules.specs.Identifiers.{is_identifier}
use Rattle.lx_rules.specs.Invariant.{are_distinct, is_kind, are_steps, returned_names, next_number}
use Rattle.lx_spec.specs.Sections.{RawRule}
use Rattle.lx_spec.specs.Actions.{Value, name, number, Statement, nothing, echo, begin, return, Action, shared, own}
use Rattle.lx_spec.specs.Outcome.{ResolvedRule, actions_in, first_own, statements_in, returned_by, with_kind, kinds_behind, kind_of, steps_of, rules_of, number_or_first}
use Rattle.lx_spec.proofs.Conjunctions.{both, left-of, right-of, all-push}
use Rattle.lx_spec.proofs.Distinct.{distinct-push, same-name-is}

-- a name that is an identifier, or a number below 2 ^ 31
abbrev pub is_value : Value → Bool
is_value (name text) = is_identifier text
is_value (number n) = nat_lt n 2147483648

abbrev pub is_statement : Statement → Bool
is_statement nothing = true
is_statement echo = true
is_statement (begin c) = true
is_statement (return v) = is_value v

abbrev pub are_statements : List Statement → Bool
are_statements ss = list_all is_statement ss

abbrev pub is_found : List (List ℕ) → List ℕ → Bool
is_found kinds text = list_any (λ k. pointwise nat_eq k text) kinds

is-returned : (ss : List Statement) (v : Value) → IsTrue (are_statements ss) → returned_by ss ≡ Some v → IsTrue (is_value v)
is-returned [] v h e = cc
is-returned (nothing ∷ ss) v h e = is-returned ss v h e
is-returned (echo ∷ ss) v h e = is-returned ss v h e
is-returned (begin c ∷ ss) v h e = is-returned ss v h e
is-returned (return w ∷ ss) v h e = let same : w ≡ v = cc in subst (λ (x : Value). IsTrue (is_value x)) same (left-of (is_value w) (are_statements ss) h)

with-more : (kinds : List (List ℕ)) (o : Option Value) → (more : List (List ℕ)) × (with_kind kinds o ≡ kinds ++ more)
with-more kinds None = ([], sym (append-nil kinds))
with-more kinds (Some (number n)) = ([], sym (append-nil kinds))
with-more kinds (Some (name text)) = by (is_found kinds text) where
  by : (b : Bool) → (more : List (List ℕ)) × (cond b kinds (kinds ++ text ∷ []) ≡ kinds ++ more)
  by true = ([], sym (append-nil kinds))
  by false = (text ∷ [], refl)

-- the kinds before keep their places
pub kinds-more : (lists : List (List Statement)) (kinds : List (List ℕ)) → (more : List (List ℕ)) × (kinds_behind kinds lists ≡ kinds ++ more)
kinds-more [] kinds = ([], sym (append-nil kinds))
kinds-more (ss ∷ lists) kinds =
    let first = with-more kinds (returned_by ss) in
    let rest = kinds-more lists (with_kind kinds (returned_by ss)) in
    (first.0 ++ rest.0, rest.1 ∙ ap (λ (l : List (List ℕ)). l ++ rest.0) first.1 ∙ append_assoc kinds first.0 rest.0)

with-distinct : (kinds : List (List ℕ)) (o : Option Value) → IsTrue (are_distinct kinds) → IsTrue (are_distinct (with_kind kinds o))
with-distinct kinds None d = d
with-distinct kinds (Some (number n)) d = d
with-distinct kinds (Some (name text)) d = by (is_found kinds text) refl where
  by : (b : Bool) → is_found kinds text ≡ b → IsTrue (are_distinct (cond b kinds (kinds ++ text ∷ [])))
  by true e = d
  by false e = distinct-push kinds text e d

pub kinds-distinct : (lists : List (List Statement)) (kinds : List (List ℕ)) → IsTrue (are_distinct kinds) → IsTrue (are_distinct (kinds_behind kinds lists))
kinds-distinct [] kinds d = d
kinds-distinct (ss ∷ lists) kinds d = kinds-distinct lists (with_kind kinds (returned_by ss)) (with-distinct kinds (returned_by ss) d)

with-identifiers : (kinds : List (List ℕ)) (o : Option Value) → ((v : Value) → o ≡ Some v → IsTrue (is_value v)) → IsTrue (list_all is_identifier kinds) → IsTrue (list_all is_identifier (with_kind kinds o))
with-identifiers kinds None is h = h
with-identifiers kinds (Some (number n)) is h = h
with-identifiers kinds (Some (name text)) is h = by (is_found kinds text) where
  by : (b : Bool) → IsTrue (list_all is_identifier (cond b kinds (kinds ++ text ∷ [])))
  by true = h
  by false = all-push is_identifier kinds text h (is (name text) refl)

pub kinds-identifiers : (lists : List (List Statement)) (kinds : List (List ℕ)) → IsTrue (list_all are_statements lists) → IsTrue (list_all is_identifier kinds) → IsTrue (list_all is_identifier (kinds_behind kinds lists))
kinds-identifiers [] kinds are h = h
kinds-identifiers (ss ∷ lists) kinds are h =
    kinds-identifiers lists (with_kind kinds (returned_by ss)) (right-of (are_statements ss) (list_all are_statements lists) are)
    (with-identifiers kinds (returned_by ss) (λ v e. is-returned ss v (left-of (are_statements ss) (list_all are_statements lists) are) e) h)

-- the place of the first element of a list that passes a test
found-below : {X : Type 0} (p : X → Bool) (xs : List X) → list_any p xs ≡ true → position_or_len p xs < length xs
found-below p [] e = cc
found-below p (x ∷ xs) e = by (p x) e (found-below p xs) where
  by : (b : Bool) → (b || list_any p xs) ≡ true → (list_any p xs ≡ true → position_or_len p xs < length xs) → cond (not b) (1 + position_or_len p xs) 0 < suc (length xs)
  by true e rest = omega arith
  by false e rest = let h = rest e in omega (arith, h)

found-front : {X : Type 0} (p : X → Bool) (xs ys : List X) → list_any p xs ≡ true → position_or_len p (xs ++ ys) ≡ position_or_len p xs
found-front p [] ys e = cc
found-front {X} p (x ∷ xs) ys e = by (p x) e (found-front p xs ys) where
  by : (b : Bool) → (b || list_any p xs) ≡ true → (list_any p xs ≡ true → position_or_len p (xs ++ ys) ≡ position_or_len p xs) → cond (not b) (1 + position_or_len p (xs ++ ys)) 0 ≡ cond (not b) (1 + position_or_len p xs) 0
  by true e rest = refl
  by false e rest = ap (λ (n : ℕ). 1 + n) (rest e)

found-behind : {X : Type 0} (p : X → Bool) (xs : List X) (y : X) (ys : List X) → list_any p xs ≡ false → p y ≡ true → position_or_len p (xs ++ (y ∷ ys)) ≡ length xs
found-behind p [] y ys e is = ap (λ (b : Bool). cond (not b) (1 + position_or_len p ys) 0) is
found-behind {X} p (x ∷ xs) y ys e is = by (p x) e (λ f. found-behind p xs y ys f is) where
  by : (b : Bool) → (b || list_any p xs) ≡ false → (list_any p xs ≡ false → position_or_len p (xs ++ (y ∷ ys)) ≡ length xs) → cond (not b) (1 + position_or_len p (xs ++ (y ∷ ys))) 0 ≡ suc (length xs)
  by true e rest = cc
  by false e rest = let h = rest e in omega (arith, h)

position-at : {X : Type 0} (p : X → Bool) (xs : List X) → position_or_len p xs < length xs → unwrap_or (position p xs) 0 ≡ position_or_len p xs
position-at {X} p xs less = let t : nat_lt (position_or_len p xs) (length xs) ≡ true = grind (arith, nat_tests) in
    ap (λ (b : Bool). unwrap_or (cond b (Some (position_or_len p xs)) None) 0) t

position-below : {X : Type 0} (p : X → Bool) (xs : List X) → 0 < length xs → unwrap_or (position p xs) 0 < length xs
position-below p xs some = by (nat_lt (position_or_len p xs) (length xs)) refl where
  by : (b : Bool) → nat_lt (position_or_len p xs) (length xs) ≡ b → unwrap_or (cond b (Some (position_or_len p xs)) None) 0 < length xs
  by true e = grind (arith, nat_tests)
  by false e = some

number-below : (start_conditions : List StartCondition) (text : List ℕ) → 0 < length start_conditions → number_or_first start_conditions text < length start_conditions
number-below start_conditions text some = by (pointwise nat_eq text (48 ∷ [])) where
  by : (b : Bool) → unwrap_or (cond b (Some 0) (position (λ s. pointwise nat_eq s.name text) start_conditions)) 0 < length start_conditions
  by true = some
  by false = position-below (λ s. pointwise nat_eq s.name text) start_conditions some

kind-range : (kinds : List (List ℕ)) (v : Value) → IsTrue (is_value v) → ((text : List ℕ) → v ≡ name text → is_found kinds text ≡ true) → IsTrue (is_kind (length kinds) (kind_of kinds v))
kind-range kinds (number n) is found = is
kind-range kinds (name text) is found =
    let some : 0 < length kinds = (let h = found-below (λ k. pointwise nat_eq k text) kinds (found text refl) in omega (arith, h)) in
    let below = position-below (λ k. pointwise nat_eq k text) kinds some in
    let t : nat_lt (unwrap_or (position (λ k. pointwise nat_eq k text) kinds) 0) (length kinds) ≡ true = grind (arith, nat_tests) in t

pub steps-range : (start_conditions : List StartCondition) (kinds : List (List ℕ)) (ss : List Statement) → 0 < length start_conditions → IsTrue (are_statements ss) → ((text : List ℕ) → returned_by ss ≡ Some (name text) → is_found kinds text ≡ true) →
    IsTrue (are_steps (length start_conditions) (length kinds) (steps_of start_conditions kinds ss))
steps-range start_conditions kinds [] some are found = refl
steps-range start_conditions kinds (nothing ∷ ss) some are found = steps-range start_conditions kinds ss some are found
steps-range start_conditions kinds (echo ∷ ss) some are found = steps-range start_conditions kinds ss some are found
steps-range start_conditions kinds (begin c ∷ ss) some are found =
    let below = number-below start_conditions c some in
    both (nat_lt (number_or_first start_conditions c) (length start_conditions)) (are_steps (length start_conditions) (length kinds) (steps_of start_conditions kinds ss)) (let t : nat_lt (number_or_first start_conditions c) (length start_conditions) ≡ true = grind (arith, nat_tests) in t)
    (steps-range start_conditions kinds ss some are found)
steps-range start_conditions kinds (return v ∷ ss) some are found = kind-range kinds v (left-of (is_value v) (are_statements ss) are) (λ text e. found text (ap (λ (w : Value). Some w) e))

pushed-found : (kinds : List (List ℕ)) (text : List ℕ) → is_found (kinds ++ text ∷ []) text ≡ true
pushed-found [] text = ap (λ (b : Bool). b || false) (same-name-is text text refl)
pushed-found (k ∷ kinds) text = by (pointwise nat_eq k text) (pushed-found kinds text) where
  by : (b : Bool) → is_found (kinds ++ text ∷ []) text ≡ true → (b || is_found (kinds ++ text ∷ []) text) ≡ true
  by true rest = refl
  by false rest = rest

-- a name that was added is in the list
with-same : (kinds : List (List ℕ)) (o : Option Value) → with_kind (with_kind kinds o) o ≡ with_kind kinds o
with-same kinds None = refl
with-same kinds (Some (number n)) = refl
with-same kinds (Some (name text)) = by (is_found kinds text) refl where
  by : (b : Bool) → is_found kinds text ≡ b → with_kind (cond b kinds (kinds ++ text ∷ [])) (Some (name text)) ≡ cond b kinds (kinds ++ text ∷ [])
  by true e = ap (λ (b : Bool). cond b kinds (kinds ++ text ∷ [])) e
  by false e = ap (λ (b : Bool). cond b (kinds ++ text ∷ []) ((kinds ++ text ∷ []) ++ text ∷ [])) (pushed-found kinds text)

-- the kind of the first of some rules is found again
first-again : (resolved : List ResolvedRule) (kinds : List (List ℕ)) → kinds_behind (with_kind kinds (returned_by (first_own (actions_in resolved)))) (statements_in resolved) ≡ kinds_behind kinds (statements_in resolved)
first-again [] kinds = refl
first-again (s ∷ resolved) kinds = ap (λ (k : List (List ℕ)). kinds_behind k (statements_in resolved)) (with-same kinds (returned_by (first_own (actions_in (s ∷ resolved)))))

-- one more rule, whose own action was taken
pub kinds-own : (resolved : List ResolvedRule) (s : ResolvedRule) (kinds : List (List ℕ)) →
    kinds_behind (with_kind kinds (returned_by (first_own (s.action ∷ [])))) (statements_in resolved) ≡ kinds_behind kinds (statements_in (s ∷ resolved))
kinds-own resolved s kinds = by s.action where
  by : (a : Action) → kinds_behind (with_kind kinds (returned_by (first_own (a ∷ [])))) (statements_in resolved) ≡ kinds_behind (with_kind kinds (returned_by (first_own (a ∷ actions_in resolved)))) (statements_in resolved)
  by shared = sym (first-again resolved kinds)
  by (own ss) = refl

with-found : (kinds : List (List ℕ)) (text : List ℕ) → is_found (with_kind kinds (Some (name text))) text ≡ true
with-found kinds text = by (is_found kinds text) refl where
  by : (b : Bool) → is_found kinds text ≡ b → is_found (cond b kinds (kinds ++ text ∷ [])) text ≡ true
  by true e = e
  by false e = pushed-found kinds text

found-more : (kinds more : List (List ℕ)) (text : List ℕ) → is_found kinds text ≡ true → is_found (kinds ++ more) text ≡ true
found-more [] more text e = cc
found-more (k ∷ kinds) more text e = by (pointwise nat_eq k text) e (found-more kinds more text) where
  by : (b : Bool) → (b || is_found kinds text) ≡ true → (is_found kinds text ≡ true → is_found (kinds ++ more) text ≡ true) → (b || is_found (kinds ++ more) text) ≡ true
  by true e rest = refl
  by false e rest = rest e

-- the kind that some statements return is one of the kinds in the end
pub returned-found : (ss : List Statement) (lists : List (List Statement)) (kinds : List (List ℕ)) (text : List ℕ) → returned_by ss ≡ Some (name text) → is_found (kinds_behind (with_kind kinds (returned_by ss)) lists) text ≡ true
returned-found ss lists kinds text e =
    let rest = kinds-more lists (with_kind kinds (returned_by ss)) in
    ap (λ (l : List (List ℕ)). is_found l text) rest.1
    ∙ found-more (with_kind kinds (returned_by ss)) rest.0 text (ap (λ (o : Option Value). is_found (with_kind kinds o) text) e ∙ with-found kinds text)

-- the number of a value's kind, if it has one
abbrev numbers_in : List (List ℕ) → Option Value → List ℕ
numbers_in kinds None = []
numbers_in kinds (Some (number n)) = []
numbers_in kinds (Some (name text)) = unwrap_or (position (λ k. pointwise nat_eq k text) kinds) 0 ∷ []

names-in : (start_conditions : List StartCondition) (kinds : List (List ℕ)) (ss : List Statement) → returned_names (steps_of start_conditions kinds ss) ≡ numbers_in kinds (returned_by ss)
names-in start_conditions kinds [] = refl
names-in start_conditions kinds (nothing ∷ ss) = names-in start_conditions kinds ss
names-in start_conditions kinds (echo ∷ ss) = names-in start_conditions kinds ss
names-in start_conditions kinds (begin c ∷ ss) = names-in start_conditions kinds ss
names-in start_conditions kinds (return (name text) ∷ ss) = refl
names-in start_conditions kinds (return (number n) ∷ ss) = refl

next-one : (kinds more : List (List ℕ)) (o : Option Value) (all : List (List ℕ)) (rest : List ℕ) → all ≡ with_kind kinds o ++ more →
    next_number (length kinds) (numbers_in all o ++ rest) ≡ next_number (length (with_kind kinds o)) rest
next-one kinds more None all rest e = refl
next-one kinds more (Some (number n)) all rest e = refl
next-one kinds more (Some (name text)) all rest e = by (is_found kinds text) refl e where
  p : List ℕ → Bool
  p k = pointwise nat_eq k text

  at : ℕ → ℕ → Option ℕ
  at n q = cond (nat_lt q n) (next_number n rest) (cond (nat_eq q n) (next_number (n + 1) rest) None)

  by : (b : Bool) → is_found kinds text ≡ b → all ≡ cond b kinds (kinds ++ text ∷ []) ++ more → at (length kinds) (unwrap_or (position p all) 0) ≡ next_number (length (cond b kinds (kinds ++ text ∷ []))) rest
  by true found f =
      let here : position_or_len p all ≡ position_or_len p kinds = ap (position_or_len p) f ∙ found-front p kinds more found in
      let below = found-below p kinds found in
      let long : length all ≡ length kinds + length more = ap length f ∙ length-append kinds more in
      let q : unwrap_or (position p all) 0 ≡ position_or_len p kinds = position-at p all (omega (arith, here, below, long)) ∙ here in
      let t : nat_lt (position_or_len p kinds) (length kinds) ≡ true = grind (arith, nat_tests) in
      ap (at (length kinds)) q ∙ ap (λ (b : Bool). cond b (next_number (length kinds) rest) (cond (nat_eq (position_or_len p kinds) (length kinds)) (next_number (length kinds + 1) rest) None)) t
  by false found f =
      let g : all ≡ kinds ++ (text ∷ more) = f ∙ append_assoc kinds (text ∷ []) more in
      let here : position_or_len p all ≡ length kinds = ap (position_or_len p) g ∙ found-behind p kinds text more found (same-name-is text text refl) in
      let long : length all ≡ length kinds + suc (length more) = ap length g ∙ length-append kinds (text ∷ more) in
      let q : unwrap_or (position p all) 0 ≡ length kinds = position-at p all (omega (arith, here, long)) ∙ here in
      let no : nat_lt (length kinds) (length kinds) ≡ false = grind (arith, nat_tests) in
      let yes : nat_eq (length kinds) (length kinds) ≡ true = grind (arith, nat_tests) in
      ap (at (length kinds)) q ∙ ap (λ (b : Bool). cond b (next_number (length kinds) rest) (cond (nat_eq (length kinds) (length kinds)) (next_number (length kinds + 1) rest) None)) no
      ∙ ap (λ (b : Bool). cond b (next_number (length kinds + 1) rest) None) yes ∙ ap (λ (n : ℕ). next_number n rest) (sym (length-append kinds (text ∷ [])))

-- the kinds appear in order
pub kinds-in-order : (start_conditions : List StartCondition) (raws : List RawRule) (resolved : List ResolvedRule) (kinds all : List (List ℕ)) → length raws ≡ length resolved → all ≡ kinds_behind kinds (statements_in resolved) →
    next_number (length kinds) (flat_map (λ (r : PlainRule). returned_names r.steps) (rules_of start_conditions all raws resolved)) ≡ Some (length all)
kinds-in-order start_conditions [] [] kinds all len e = ap (λ (l : List (List ℕ)). Some (length l)) (sym e)
kinds-in-order start_conditions [] (s ∷ resolved) kinds all len e = absurd (omega arith)
kinds-in-order start_conditions (raw ∷ raws) [] kinds all len e = absurd (omega arith)
kinds-in-order start_conditions (raw ∷ raws) (s ∷ resolved) kinds all len e =
    let ss = first_own (actions_in (s ∷ resolved)) in
    let rest = flat_map (λ (r : PlainRule). returned_names r.steps) (rules_of start_conditions all raws resolved) in
    let more = kinds-more (statements_in resolved) (with_kind kinds (returned_by ss)) in
    ap (λ (l : List ℕ). next_number (length kinds) (l ++ rest)) (names-in start_conditions all ss)
    ∙ next-one kinds more.0 (returned_by ss) all rest (e ∙ more.1)
    ∙ kinds-in-order start_conditions raws resolved (with_kind kinds (returned_by ss)) all (omega (arith, len)) e
