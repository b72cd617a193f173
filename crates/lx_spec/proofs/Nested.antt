-- The names of an accepted specification: each is defined, and at most 32 follow one another.
use Rattle.std.proofs.Common.{◌≡◌, ◌∙◌, inl, ℕ, zero, suc, ◌+◌, Bool, true, false, not, cond, nat_eq, nat_lt, List, [], ◌∷◌, length, map, get_or, Option, Some, None, refl, ap, sym, subst, arith}
use Rattle.std.specs.Prelude.{IsTrue, Contains, slice_get, is_some}
use Rattle.std.specs.List.{list_all, filter_map, cons_option, position, position_or_len}
use Rattle.std.specs.Cmp.Lexicographic.{pointwise}
use Rattle.std.proofs.Math.ListN.{get_or-map}
use Rattle.std.proofs.lemmas.Bool.{false≢true}
use Rattle.std.proofs.lemmas.Bool.Decides.{nat_tests}
use Rattle.std.proofs.lemmas.List.{length-map}
use Rattle.std.proofs.lemmas.List.Elements.{Contains-append_left, Contains-append_right}
use Rattle.lx_ere.specs.Regex.{Regex}
use Rattle.lx_rules.specs.Limits.{max_name_depth}
use Rattle.lx_rules.specs.Plain.{PlainDefinition}
use Rattle.lx_rules.specs.Names.{names_of}
use Rattle.lx_rules.specs.Nesting.{tree_named, holds_of, is_no_name, is_within, are_nested}
use Rattle.lx_spec.specs.Sections.{RawDefinition, RawRule}
use Rattle.lx_spec.specs.Dictionary.{number_of, row_of, all_defined, mention_of, mentions_in, mentions_from, mentions_of, is_incomplete, incomplete_marks}
use Rattle.lx_spec.specs.First.{HoldsOfNone}
use Rattle.lx_spec.specs.Graph.{nowhere, IsMention, Follow, is_marked}
use Rattle.lx_spec.specs.Outcome.{IsReached, named_in, mentioned, AreReached, none, reached, passed, ResolvedRule, AreResolved, patterns_in}
use Rattle.lx_spec.specs.Verdict.{SymbolTable, Holds, cases}
use Rattle.lx_spec.specs.declared.graph.Mention.{Mention}
use Rattle.lx_spec.proofs.Marks.{read_at}
use Rattle.lx_spec.proofs.Words.{pick_first, pick_second}
use Rattle.lx_spec.proofs.Conjunctions.{both, left-of, right-of}
use Rattle.lx_spec.proofs.Reached.{safe-patterns, reached-complete}

-- the place of the first that passes: if the front element does, and if it doesn't
place-first : {X : Type 0} (p : X → Bool) (x : X) (xs : List X) (j : ℕ) → p x ≡ true → position p (x ∷ xs) ≡ Some j → j ≡ 0
place-first p x xs j e h =
    let n : position_or_len p (x ∷ xs) ≡ 0 = ap (λ (b : Bool). cond (not b) (1 + position_or_len p xs) 0) e in
    let less : nat_lt 0 (suc (length xs)) ≡ true = grind (arith, nat_tests) in
    let at : position p (x ∷ xs) ≡ Some 0 = ap (λ (k : ℕ). cond (nat_lt k (suc (length xs))) (Some k) None) n ∙ pick_first _ _ less in
    let same : Some 0 ≡ Some j = sym at ∙ h in
    cc

place-later : {X : Type 0} (p : X → Bool) (x : X) (xs : List X) (j : ℕ) → p x ≡ false → position p (x ∷ xs) ≡ Some j → (k : ℕ) × (j ≡ suc k) × (position p xs ≡ Some k)
place-later p x xs j e h = by (nat_lt n (length xs)) refl where
  n : ℕ
  n = position_or_len p xs

  len : position_or_len p (x ∷ xs) ≡ suc n
  len = ap (λ (b : Bool). cond (not b) (1 + n) 0) e ∙ omega arith

  at : cond (nat_lt (suc n) (suc (length xs))) (Some (suc n)) None ≡ Some j
  at = sym (ap (λ (k : ℕ). cond (nat_lt k (suc (length xs))) (Some k) None) len) ∙ h

  by : (b : Bool) → nat_lt n (length xs) ≡ b → (k : ℕ) × (j ≡ suc k) × (position p xs ≡ Some k)
  by true t =
      let t' : nat_lt (suc n) (suc (length xs)) ≡ true = grind (arith, nat_tests) in
      let same : Some (suc n) ≡ Some j = sym (pick_first _ _ t') ∙ at in
      let less : suc n ≡ j = cc in
      (n, sym less, pick_first _ _ t)
  by false t =
      let t' : nat_lt (suc n) (suc (length xs)) ≡ false = grind (arith, nat_tests) in
      let same : None ≡ Some j = sym (pick_second _ _ t') ∙ at in
      cc

-- a defined name finds the tree of its definition, if that one is reached
pub tree-found : (R : ℕ → Type 0) (i : ℕ) (raw_definitions : List RawDefinition) (trees : List (Option Regex)) (ds : List PlainDefinition) (name : List ℕ) (j : ℕ)
    → AreReached R i raw_definitions trees ds → number_of raw_definitions name ≡ Some j → R (i + j) → (u : Regex) × (tree_named ds name ≡ Some u) × (slice_get trees j ≡ Some (Some u))
tree-found R _ _ _ _ name j (none i) e r = cc
tree-found R _ _ _ _ name j (reached i d tree raw_definitions trees ds r0 are) e r = by (pointwise nat_eq d.name name) refl (λ k at q. tree-found R (suc i) raw_definitions trees ds name k are at q) where
  by : (b : Bool) → pointwise nat_eq d.name name ≡ b → ((k : ℕ) → number_of raw_definitions name ≡ Some k → R (suc i + k) → (u : Regex) × (tree_named ds name ≡ Some u) × (slice_get trees k ≡ Some (Some u)))
      → (u : Regex) × (tree_named (record { name = d.name; tree = tree } ∷ ds) name ≡ Some u) × (slice_get (Some tree ∷ trees) j ≡ Some (Some u))
  by true b more =
      let first = place-first (λ (x : RawDefinition). pointwise nat_eq x.name name) d raw_definitions j b e in
      (tree, pick_first _ _ b, ap (slice_get (Some tree ∷ trees)) first)
  by false b more =
      let w = place-later (λ (x : RawDefinition). pointwise nat_eq x.name name) d raw_definitions j b e in
      let k : ℕ = w.0 in
      let is : j ≡ suc k = w.1 in
      let same : i + j ≡ suc i + k = omega arith in
      let v = more k w.2 (subst R same r) in
      (v.0, pick_second _ _ b ∙ v.1, ap (slice_get (Some tree ∷ trees)) is ∙ v.2)
tree-found R _ _ _ _ name j (passed i d t raw_definitions trees ds never are) e r = by (pointwise nat_eq d.name name) refl (λ k at q. tree-found R (suc i) raw_definitions trees ds name k are at q) where
  by : (b : Bool) → pointwise nat_eq d.name name ≡ b → ((k : ℕ) → number_of raw_definitions name ≡ Some k → R (suc i + k) → (u : Regex) × (tree_named ds name ≡ Some u) × (slice_get trees k ≡ Some (Some u)))
      → (u : Regex) × (tree_named ds name ≡ Some u) × (slice_get (t ∷ trees) j ≡ Some (Some u))
  by true b more =
      let first = place-first (λ (x : RawDefinition). pointwise nat_eq x.name name) d raw_definitions j b e in
      let same : i + j ≡ i = omega arith in
      absurd (never (subst R same r))
  by false b more =
      let w = place-later (λ (x : RawDefinition). pointwise nat_eq x.name name) d raw_definitions j b e in
      let k : ℕ = w.0 in
      let is : j ≡ suc k = w.1 in
      let same : i + j ≡ suc i + k = omega arith in
      let v = more k w.2 (subst R same r) in
      (v.0, v.1, ap (slice_get (t ∷ trees)) is ∙ v.2)

contains-map : {X Y : Type 0} (f : X → Y) (xs : List X) (x : X) → Contains xs x → Contains (map f xs) (f x)
contains-map f xs x (k, less, e) = (k, omega (arith, length-map xs f), get_or-map f xs k x ∙ ap f e)

-- a definition mentions the elements of its row
mention-in : (raw_definitions : List RawDefinition) (i : ℕ) (trees : List (Option Regex)) (j : ℕ) (u : Regex) (k : ℕ) → slice_get trees j ≡ Some (Some u) → Contains (row_of raw_definitions u) k → Contains (mentions_from raw_definitions i trees) (mention_of (i + j) k)
mention-in raw_definitions i [] j u k at in_row = cc
mention-in raw_definitions i (t ∷ trees) zero u k at in_row =
    let same : t ≡ Some u = cc in
    let here : i ≡ i + 0 = omega arith in
    Contains-append_left (mentions_in raw_definitions i t) (mentions_from raw_definitions (suc i) trees) (mention_of (i + 0) k)
    (subst (λ (o : Option Regex). Contains (mentions_in raw_definitions i o) (mention_of (i + 0) k)) (sym same) (subst (λ (n : ℕ). Contains (mentions_in raw_definitions i (Some u)) (mention_of n k)) here (contains-map (mention_of i) (row_of raw_definitions u) k in_row)))
mention-in raw_definitions i (t ∷ trees) (suc j) u k at in_row =
    let there : suc i + j ≡ i + suc j = omega arith in
    Contains-append_right (mentions_in raw_definitions i t) (mentions_from raw_definitions (suc i) trees) (mention_of (i + suc j) k)
    (subst (λ (n : ℕ). Contains (mentions_from raw_definitions (suc i) trees) (mention_of n k)) there (mention-in raw_definitions (suc i) trees j u k at in_row))

is-mention : (ms : List Mention) (i j : ℕ) → Contains ms (mention_of i j) → IsMention ms i j
is-mention ms i j (k, less, e) =
    let same : get_or ms k nowhere ≡ mention_of i j = read_at ms k (mention_of i j) nowhere less (sym e) in
    record { place = k; within = less; from = ap (λ (m : Mention). m.from) same; to = ap (λ (m : Mention). m.to) same }

pub row-mention : (raw_definitions : List RawDefinition) (trees : List (Option Regex)) (j : ℕ) (u : Regex) (k : ℕ) → slice_get trees j ≡ Some (Some u) → Contains (row_of raw_definitions u) k → IsMention (mentions_of raw_definitions trees) j k
row-mention raw_definitions trees j u k at in_row =
    let same : 0 + j ≡ j = omega arith in
    is-mention (mentions_of raw_definitions trees) j k (subst (λ (n : ℕ). Contains (mentions_of raw_definitions trees) (mention_of n k)) same (mention-in raw_definitions 0 trees j u k at in_row))

mark-of : {X : Type 0} (f : X → Bool) (xs : List X) (i : ℕ) (x : X) → slice_get xs i ≡ Some x → is_marked (map f xs) i ≡ f x
mark-of f [] i x e = cc
mark-of f (y ∷ xs) zero x e = let same : y ≡ x = cc in ap f same
mark-of f (y ∷ xs) (suc i) x e = mark-of f xs i x e

not-false : (b : Bool) → not b ≡ false → b ≡ true
not-false true e = refl
not-false false e = cc

complete-at : (raw_definitions : List RawDefinition) (trees : List (Option Regex)) (j : ℕ) (u : Regex) → slice_get trees j ≡ Some (Some u) → is_marked (incomplete_marks raw_definitions trees) j ≡ false → all_defined raw_definitions u ≡ true
complete-at raw_definitions trees j u at e = not-false (all_defined raw_definitions u) (sym (mark-of (is_incomplete raw_definitions) trees j (Some u) at) ∙ e)

-- names that are defined, if each finds a tree that has a property
names-hold : (raw_definitions : List RawDefinition) (ds : List PlainDefinition) (p : Regex → Bool) (names : List (List ℕ)) → IsTrue (list_all (λ name. is_some (number_of raw_definitions name)) names)
    → ((name : List ℕ) (j : ℕ) → number_of raw_definitions name ≡ Some j → Contains (filter_map (number_of raw_definitions) names) j → IsTrue (holds_of p (tree_named ds name))) → IsTrue (list_all (λ name. holds_of p (tree_named ds name)) names)
names-hold raw_definitions ds p [] defined each = refl
names-hold raw_definitions ds p (name ∷ names) defined each =
    by (number_of raw_definitions name) refl (names-hold raw_definitions ds p names (right-of (is_some (number_of raw_definitions name)) (list_all (λ n. is_some (number_of raw_definitions n)) names) defined)) (left-of (is_some (number_of raw_definitions name)) (list_all (λ n. is_some (number_of raw_definitions n)) names) defined)
  where
    Each : List ℕ → Type 0
    Each numbers = (n : List ℕ) (j : ℕ) → number_of raw_definitions n ≡ Some j → Contains numbers j → IsTrue (holds_of p (tree_named ds n))

    by : (o : Option ℕ) → number_of raw_definitions name ≡ o → (Each (filter_map (number_of raw_definitions) names) → IsTrue (list_all (λ n. holds_of p (tree_named ds n)) names)) → IsTrue (is_some (number_of raw_definitions name))
        → IsTrue (list_all (λ n. holds_of p (tree_named ds n)) (name ∷ names))
    by None e more is = absurd (false≢true (sym (ap is_some e) ∙ is))
    by (Some j) e more is =
        let front : filter_map (number_of raw_definitions) (name ∷ names) ≡ j ∷ filter_map (number_of raw_definitions) names = ap (λ (o : Option ℕ). cons_option o (filter_map (number_of raw_definitions) names)) e in
        let all = subst (λ (l : List ℕ). (n : List ℕ) (k : ℕ) → number_of raw_definitions n ≡ Some k → Contains l k → IsTrue (holds_of p (tree_named ds n))) front each in
        both (holds_of p (tree_named ds name)) (list_all (λ n. holds_of p (tree_named ds n)) names) (all name j e (Contains-append_left (j ∷ []) (filter_map (number_of raw_definitions) names) j (0, omega arith, refl)))
        (more (λ n k at in_row. all n k at (Contains-append_right (j ∷ []) (filter_map (number_of raw_definitions) names) k in_row)))

no-names : (raw_definitions : List RawDefinition) (names : List (List ℕ)) → IsTrue (list_all (λ name. is_some (number_of raw_definitions name)) names) → ((j : ℕ) → Contains (filter_map (number_of raw_definitions) names) j → ⊥) → IsTrue (is_no_name names)
no-names raw_definitions [] defined never = refl
no-names raw_definitions (name ∷ names) defined never = by (number_of raw_definitions name) refl (left-of (is_some (number_of raw_definitions name)) (list_all (λ n. is_some (number_of raw_definitions n)) names) defined) where
  by : (o : Option ℕ) → number_of raw_definitions name ≡ o → IsTrue (is_some (number_of raw_definitions name)) → IsTrue (is_no_name (name ∷ names))
  by None e is = absurd (false≢true (sym (ap is_some e) ∙ is))
  by (Some j) e is =
      let front : filter_map (number_of raw_definitions) (name ∷ names) ≡ j ∷ filter_map (number_of raw_definitions) names = ap (λ (o : Option ℕ). cons_option o (filter_map (number_of raw_definitions) names)) e in
      absurd (never j (subst (λ (l : List ℕ). Contains l j) (sym front) (Contains-append_left (j ∷ []) (filter_map (number_of raw_definitions) names) j (0, omega arith, refl))))

module _ (raw_definitions : List RawDefinition) (trees : List (Option Regex)) (from : List Regex) (ds : List PlainDefinition) (are : AreReached (IsReached raw_definitions trees from) 0 raw_definitions trees ds)
    (complete : (i : ℕ) → IsReached raw_definitions trees from i → is_marked (incomplete_marks raw_definitions trees) i ≡ false) where
  -- an expression whose names are defined and reached, if fewer names follow one another after it
  pub within : (n : ℕ) (tree : Regex) → all_defined raw_definitions tree ≡ true → ((j : ℕ) → Contains (row_of raw_definitions tree) j → IsReached raw_definitions trees from j)
      → ((j : ℕ) → Contains (row_of raw_definitions tree) j → Follow (IsMention (mentions_of raw_definitions trees)) n j → ⊥) → IsTrue (is_within n ds tree)
  within zero tree defined reach never = no-names raw_definitions (names_of tree) defined (λ j at. never j at tt)
  within (suc n) tree defined reach never = names-hold raw_definitions ds (is_within n ds) (names_of tree) defined (λ name j at in_row.
      let same : j ≡ 0 + j = omega arith in
      let w = tree-found (IsReached raw_definitions trees from) 0 raw_definitions trees ds name j are at (subst (IsReached raw_definitions trees from) same (reach j in_row)) in
      ap (holds_of (is_within n ds)) w.1
      ∙ within n w.0 (complete-at raw_definitions trees j w.0 w.2 (complete j (reach j in_row))) (λ k k_in. mentioned j k (reach j in_row) (row-mention raw_definitions trees j w.0 k w.2 k_in)) (λ k k_in f. never j in_row (k, row-mention raw_definitions trees j w.0 k w.2 k_in, f)))

all-hold : {X : Type 0} (p : X → Bool) (xs : List X) → ((x : X) → Contains xs x → IsTrue (p x)) → IsTrue (list_all p xs)
all-hold p [] each = refl
all-hold p (x ∷ xs) each = both (p x) (list_all p xs) (each x (Contains-append_left (x ∷ []) xs x (0, omega arith, refl))) (all-hold p xs (λ y at. each y (Contains-append_right (x ∷ []) xs y at)))

not-false_then : (b : Bool) → (b ≡ false → ⊥) → b ≡ true
not-false_then true never = refl
not-false_then false never = absurd (never refl)

-- In an accepted specification each name is defined, and at most 32 follow one another.
pub nested : (table : SymbolTable) (raws : List RawRule) (resolved : List ResolvedRule) (ds : List PlainDefinition) → HoldsOfNone (Holds table) (cases raws) → AreResolved table.start_conditions raws resolved
    → AreReached (IsReached table.definitions table.trees (patterns_in resolved)) 0 table.definitions table.trees ds → IsTrue (are_nested ds (patterns_in resolved))
unfolding are_nested
nested table raws resolved ds clean resolves are = all-hold (is_within max_name_depth ds) (patterns_in resolved) (λ tree at.
    let safe = safe-patterns table raws resolved clean resolves tree at in
    within table.definitions table.trees (patterns_in resolved) ds are (reached-complete table raws resolved clean resolves) max_name_depth tree (not-false_then (all_defined table.definitions tree) (λ e. safe.undefined (inl e))) (λ j in_row. named_in tree j at in_row) (λ j in_row f. safe.too_deep (j, in_row, f)))
