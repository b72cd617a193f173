-- The definitions that rules reach: by marks, and one after the other.
use Rattle.std.proofs.Common.{◌≡◌, ◌∙◌, ◌↔◌, ◌⊎◌, inl, inr, ℕ, zero, suc, ◌<◌, ◌≤◌, Bool, true, false, List, [], ◌∷◌, ◌++◌, length, map, take, drop, reverse, get_or, Option, Some, refl, ap, sym, subst, arith}
use Rattle.std.specs.Prelude.{IsTrue, Contains, slice_get, slice_index}
use Rattle.std.specs.List.{AllByRecursion, flat_map}
use Rattle.std.proofs.Math.ListN.{get_or-map}
use Rattle.std.proofs.lemmas.List.{length-map, drop_all, reverse-append}
use Rattle.std.proofs.lemmas.List.Elements.{All-from_recursion, Contains-append_left, Contains-append_right, Contains-append_cases}
use Rattle.lx_ere.specs.Regex.{Regex}
use Rattle.lx_rules.specs.Plain.{PlainDefinition}
use Rattle.lx_rules.specs.Names.{names_of}
use Rattle.lx_spec.specs.Sections.{RawDefinition, RawRule}
use Rattle.lx_spec.specs.Dictionary.{row_of, mention_of, mentions_of, unreadable_marks, incomplete_marks}
use Rattle.lx_spec.specs.First.{HoldsOfNone}
use Rattle.lx_spec.specs.Graph.{nowhere, IsMention, AreBelow, Leads, itself, along, is_marked}
use Rattle.lx_spec.specs.Outcome.{IsReached, named_in, mentioned, AreReached, none, reached, passed, ResolvedRule, AreResolved, patterns_in}
use Rattle.lx_spec.specs.Verdict.{SymbolTable, Holds, LeadsUnreadable, LeadsUndefined, LeadsDeep, cases}
use Rattle.lx_spec.specs.declared.graph.Mention.{Mention}
use Rattle.lx_spec.proofs.Below.{row-below}

-- the elements of concatenated lists
contains-joined : {X Y : Type 0} (f : X → List Y) (xs : List X) (x : X) (y : Y) → Contains xs x → Contains (f x) y → Contains (flat_map f xs) y
contains-joined f [] x y (k, less, e) h = absurd (omega arith)
contains-joined f (z ∷ xs) x y at h = by (Contains-append_cases (z ∷ []) xs x at) (λ more. contains-joined f xs x y more h) where
  by : Contains (z ∷ []) x ⊎ Contains xs x → (Contains xs x → Contains (flat_map f xs) y) → Contains (f z ++ flat_map f xs) y
  by (inl (zero, less, e)) behind = Contains-append_left (f z) (flat_map f xs) y (subst (λ w. Contains (f w) y) (sym e) h)
  by (inl (suc k, less, e)) behind = absurd (omega arith)
  by (inr more) behind = Contains-append_right (f z) (flat_map f xs) y (behind more)

contained-of_joined : {X Y : Type 0} (f : X → List Y) (xs : List X) (y : Y) → Contains (flat_map f xs) y → (x : X) × Contains xs x × Contains (f x) y
contained-of_joined f [] y (k, less, e) = absurd (omega arith)
contained-of_joined {X} f (z ∷ xs) y at = by (Contains-append_cases (f z) (flat_map f xs) y at) (λ h. contained-of_joined f xs y h) where
  by : Contains (f z) y ⊎ Contains (flat_map f xs) y → (Contains (flat_map f xs) y → (x : X) × Contains xs x × Contains (f x) y) → (x : X) × Contains (z ∷ xs) x × Contains (f x) y
  by (inl h) behind = (z, Contains-append_left (z ∷ []) xs z (0, omega arith, refl), h)
  by (inr h) behind = let w = behind h in (w.0, Contains-append_right (z ∷ []) xs w.0 w.1, w.2)

-- the reversed mention
abbrev pub turned : Mention → Mention
turned m = mention_of m.to m.from

turned-at : (ms : List Mention) (k : ℕ) → get_or (map turned ms) k nowhere ≡ turned (get_or ms k nowhere)
turned-at ms k = get_or-map turned ms k nowhere

pub turned-below : (ms : List Mention) (n : ℕ) → AreBelow ms n → AreBelow (map turned ms) n
turned-below ms n below k less =
    let within : k < length ms = omega (arith, length-map ms turned) in
    let h = below k within in
    let e = turned-at ms k in
    (subst (λ (m : Mention). m.from < n) (sym e) h.1, subst (λ (m : Mention). m.to < n) (sym e) h.0)

turned-mention : (ms : List Mention) (i j : ℕ) → IsMention (map turned ms) i j → IsMention ms j i
turned-mention ms i j m =
    let e = turned-at ms m.place in
    let l = m.within in
    record { place = m.place; within = omega (arith, length-map ms turned); from = sym (ap (λ (x : Mention). x.to) e) ∙ m.to; to = sym (ap (λ (x : Mention). x.from) e) ∙ m.from }

mention-turned : (ms : List Mention) (i j : ℕ) → IsMention ms j i → IsMention (map turned ms) i j
mention-turned ms i j m =
    let e = turned-at ms m.place in
    let l = m.within in
    record { place = m.place; within = omega (arith, length-map ms turned); from = ap (λ (x : Mention). x.from) e ∙ m.to; to = ap (λ (x : Mention). x.to) e ∙ m.from }

module _ (raw_definitions : List RawDefinition) (trees : List (Option Regex)) (from : List Regex) (marks : List Bool) (set : (i : ℕ) → IsTrue (is_marked marks i) ↔ Contains (flat_map (row_of raw_definitions) from) i) where
  led-reached : (i : ℕ) → Leads (map turned (mentions_of raw_definitions trees)) marks i → IsReached raw_definitions trees from i
  led-reached _ (itself i h) = let w = contained-of_joined (row_of raw_definitions) from i ((set i).0 h) in named_in w.0 i w.1 w.2
  led-reached _ (along i j m l) = mentioned j i (led-reached j l) (turned-mention (mentions_of raw_definitions trees) i j m)

  reached-led : (i : ℕ) → IsReached raw_definitions trees from i → Leads (map turned (mentions_of raw_definitions trees)) marks i
  reached-led _ (named_in tree j at in_row) = itself j ((set j).1 (contains-joined (row_of raw_definitions) from tree j at in_row))
  reached-led _ (mentioned i j r m) = along j i (mention-turned (mentions_of raw_definitions trees) j i m) (reached-led i r)

  -- the marks that lead to one of these, along reversed mentions
  pub led-is_reached : (ms : List Mention) → ms ≡ map turned (mentions_of raw_definitions trees) → (new : List Bool) → ((i : ℕ) → IsTrue (is_marked new i) ↔ Leads ms marks i) → (i : ℕ) → IsTrue (is_marked new i) ↔ IsReached raw_definitions trees from i
  led-is_reached ms e new led i = (
    λ h. led-reached i (subst (λ (l : List Mention). Leads l marks i) e ((led i).0 h)),
    λ r. (led i).1 (subst (λ (l : List Mention). Leads l marks i) (sym e) (reached-led i r)),
  )

all-append : {X : Type 0} (P : X → Type 0) (xs ys : List X) → AllByRecursion P xs → AllByRecursion P ys → AllByRecursion P (xs ++ ys)
all-append P [] ys a b = b
all-append P (x ∷ xs) ys a b = (a.0, all-append P xs ys a.1 b)

all-joined : (raw_definitions : List RawDefinition) (from : List Regex) → AllByRecursion (λ j. j < length raw_definitions) (flat_map (row_of raw_definitions) from)
all-joined raw_definitions [] = tt
all-joined raw_definitions (tree ∷ from) = all-append (λ j. j < length raw_definitions) (row_of raw_definitions tree) (flat_map (row_of raw_definitions) from) (row-below raw_definitions (names_of tree)) (all-joined raw_definitions from)

-- the numbers that patterns name are those of definitions
pub rows-within : (raw_definitions : List RawDefinition) (from : List Regex) (k : ℕ) → k < length (flat_map (row_of raw_definitions) from) → slice_index (flat_map (row_of raw_definitions) from) k < length raw_definitions
rows-within raw_definitions from k less = All-from_recursion (λ j. j < length raw_definitions) (flat_map (row_of raw_definitions) from) (all-joined raw_definitions from) k 0 less

-- one definition more, given the reached ones in reverse order
pub marked-push : (R : ℕ → Type 0) (i : ℕ) (d : RawDefinition) (more : List RawDefinition) (o : Option Regex) (t : Regex) (trees : List (Option Regex)) (old new : List PlainDefinition) (name : List ℕ)
    → R i → o ≡ Some t → name ≡ d.name → new ≡ record { name = name; tree = t } ∷ old → AreReached R (suc i) more trees old → AreReached R i (d ∷ more) (o ∷ trees) new
marked-push R i d more o t trees old new name r is same e are =
    let whole : new ≡ record { name = d.name; tree = t } ∷ old = e ∙ ap (λ (x : List ℕ). record { name = x; tree = t } ∷ old) same in
    subst (λ (ds : List PlainDefinition). AreReached R i (d ∷ more) (o ∷ trees) ds) (sym whole)
    (subst (λ (u : Option Regex). AreReached R i (d ∷ more) (u ∷ trees) (record { name = d.name; tree = t } ∷ old)) (sym is) (reached i d t more trees old r are))

pub backwards-push : {X Y : Type 0} (f : X → Y) (old new : List X) (x : X) → new ≡ old ++ x ∷ [] → map f (reverse new) ≡ f x ∷ map f (reverse old)
backwards-push f old new x e = ap (λ l. map f (reverse l)) e ∙ ap (map f) (reverse-append old (x ∷ []))

-- after all definitions none is left
pub reached-none : (R : ℕ → Type 0) (n : ℕ) (raw_definitions : List RawDefinition) (trees : List (Option Regex)) → length raw_definitions ≤ n → length trees ≤ n → AreReached R n (drop n raw_definitions) (drop n trees) []
reached-none R n raw_definitions trees a b =
    subst (λ (ds : List RawDefinition). AreReached R n ds (drop n trees) []) (sym (drop_all n raw_definitions a)) (subst (λ (ts : List (Option Regex)). AreReached R n [] ts []) (sym (drop_all n trees b)) (none n))

no_end : {X : Type 0} (new : List X) (x : X) → [] ≡ new ++ x ∷ [] → ⊥
no_end [] x e = cc
no_end (z ∷ new) x e = cc

-- those from one place on, given those after it
pub reached-before : (R : ℕ → Type 0) (i : ℕ) (d : RawDefinition) (raw_definitions : List RawDefinition) (o : Option Regex) (trees : List (Option Regex)) (old new : List PlainDefinition) (n : ℕ) → n ≡ suc i
    → drop i raw_definitions ≡ d ∷ drop (suc i) raw_definitions → drop i trees ≡ o ∷ drop (suc i) trees → AreReached R n (drop n raw_definitions) (drop n trees) old → (k : ℕ) → k ≡ i
    → ((more : List RawDefinition) (ts : List (Option Regex)) → AreReached R (suc k) more ts old → AreReached R k (d ∷ more) (o ∷ ts) new) → AreReached R i (drop i raw_definitions) (drop i trees) new
reached-before R i d raw_definitions o trees old new n one at_d at_o are k same before =
    let behind = subst (λ (m : ℕ). AreReached R m (drop m raw_definitions) (drop m trees) old) one are in
    let step = subst (λ (m : ℕ). (more : List RawDefinition) (ts : List (Option Regex)) → AreReached R (suc m) more ts old → AreReached R m (d ∷ more) (o ∷ ts) new) same before in
    subst (λ (ds : List RawDefinition). AreReached R i ds (drop i trees) new) (sym at_d) (subst (λ (ts : List (Option Regex)). AreReached R i (d ∷ drop (suc i) raw_definitions) ts new) (sym at_o) (step (drop (suc i) raw_definitions) (drop (suc i) trees) behind))

-- the last of the first n elements
pub popped : {X : Type 0} (xs new : List X) (x : X) (n : ℕ) → take n xs ≡ new ++ x ∷ [] → (new ≡ take (length new) xs) × (drop (length new) xs ≡ x ∷ drop (suc (length new)) xs)
popped [] new x zero e = absurd (no_end new x e)
popped [] new x (suc n) e = absurd (no_end new x e)
popped (y ∷ xs) new x zero e = absurd (no_end new x e)
popped (y ∷ xs) [] x (suc n) e = let same : y ≡ x = cc in (refl, ap (λ v. v ∷ xs) same)
popped (y ∷ xs) (z ∷ new) x (suc n) e =
    let same : y ≡ z = cc in
    let more : take n xs ≡ new ++ x ∷ [] = cc in
    let h = popped xs new x n more in
    (ap (λ l. z ∷ l) h.0 ∙ ap (λ v. v ∷ take (length new) xs) (sym same), h.1)

pub drop-map : {X Y : Type 0} (f : X → Y) (xs : List X) (i : ℕ) → drop i (map f xs) ≡ map f (drop i xs)
drop-map f xs zero = refl
drop-map f [] (suc i) = refl
drop-map f (x ∷ xs) (suc i) = drop-map f xs i

pub marked-at : {X : Type 0} (f : X → Bool) (xs : List X) (i : ℕ) (x : X) (more : List X) → drop i xs ≡ x ∷ more → is_marked (map f xs) i ≡ f x
marked-at f [] zero x more e = cc
marked-at f [] (suc i) x more e = cc
marked-at f (y ∷ xs) zero x more e = let same : y ≡ x = cc in ap f same
marked-at f (y ∷ xs) (suc i) x more e = marked-at f xs i x more e

pub drop-at : {X : Type 0} (xs : List X) (i : ℕ) → i < length xs → (x : X) × (slice_get xs i ≡ Some x) × (drop i xs ≡ x ∷ drop (suc i) xs)
drop-at [] i less = absurd (omega arith)
drop-at (x ∷ xs) zero less = (x, refl, refl)
drop-at (x ∷ xs) (suc i) less = drop-at xs i (omega arith)

-- The list is the same if the same numbers are reached.
pub reached-same : (R Q : ℕ → Type 0) (i : ℕ) (raw_definitions : List RawDefinition) (trees : List (Option Regex)) (ds : List PlainDefinition) → ((j : ℕ) → R j ↔ Q j) → AreReached R i raw_definitions trees ds → AreReached Q i raw_definitions trees ds
reached-same R Q _ _ _ _ same (none i) = none i
reached-same R Q _ _ _ _ same (reached i d tree raw_definitions trees ds r are) = reached i d tree raw_definitions trees ds ((same i).0 r) (reached-same R Q (suc i) raw_definitions trees ds same are)
reached-same R Q _ _ _ _ same (passed i d t raw_definitions trees ds never are) = passed i d t raw_definitions trees ds (λ q. never ((same i).1 q)) (reached-same R Q (suc i) raw_definitions trees ds same are)

pub reached-few : (R : ℕ → Type 0) (i : ℕ) (raw_definitions : List RawDefinition) (trees : List (Option Regex)) (ds : List PlainDefinition) → AreReached R i raw_definitions trees ds → length ds ≤ length raw_definitions
reached-few R _ _ _ _ (none i) = omega arith
reached-few R _ _ _ _ (reached i d tree raw_definitions trees ds r are) = let h = reached-few R (suc i) raw_definitions trees ds are in let table : suc (length ds) ≤ suc (length raw_definitions) = omega arith in table
reached-few R _ _ _ _ (passed i d t raw_definitions trees ds never are) = let h = reached-few R (suc i) raw_definitions trees ds are in let table : length ds ≤ suc (length raw_definitions) = omega arith in table

-- The definitions that an expression leads to have no fault: each substitute has a reading, each name is defined, and at most 32 follow one another.
pub record IsSafe (table : SymbolTable) (tree : Regex) : Type 0 where
  pub unreadable : LeadsUnreadable table tree → ⊥
  pub undefined : LeadsUndefined table tree → ⊥
  pub too_deep : LeadsDeep table tree → ⊥

-- the patterns of rules without a fault
pub safe-patterns : (table : SymbolTable) (raws : List RawRule) (resolved : List ResolvedRule) → HoldsOfNone (Holds table) (cases raws) → AreResolved table.start_conditions raws resolved → (tree : Regex) → Contains (patterns_in resolved) tree → IsSafe table tree
safe-patterns table [] [] clean are tree (k, less, e) = absurd (omega arith)
safe-patterns table [] (s ∷ resolved) clean are tree at = absurd are
safe-patterns table (raw ∷ raws) [] clean are tree at = absurd are
safe-patterns table (raw ∷ raws) (s ∷ resolved) clean are tree at =
    let this : IsSafe table s.reading.tree = record {
      unreadable = λ l. clean.1.1.0 (inr (s.reading, are.0.reading, l));
      undefined = λ l. clean.1.1.1.0 (s.reading, are.0.reading, l);
      too_deep = λ l. clean.1.1.1.1.0 (s.reading, are.0.reading, l);
    } in
    by (Contains-append_cases (s.reading.tree ∷ []) (patterns_in resolved) tree at) this (λ more. safe-patterns table raws resolved clean.1.1.1.1.1.1.1.1 are.1 tree more)
  where
    by : Contains (s.reading.tree ∷ []) tree ⊎ Contains (patterns_in resolved) tree → IsSafe table s.reading.tree → (Contains (patterns_in resolved) tree → IsSafe table tree) → IsSafe table tree
    by (inl (zero, less, e)) this behind = subst (IsSafe table) e this
    by (inl (suc k, less, e)) this behind = absurd (omega arith)
    by (inr more) this behind = behind more

-- if no pattern leads to a mark, no reached definition does
pub never-led : (raw_definitions : List RawDefinition) (trees : List (Option Regex)) (from : List Regex) (marks : List Bool)
    → ((tree : Regex) → Contains from tree → ((j : ℕ) × Contains (row_of raw_definitions tree) j × Leads (mentions_of raw_definitions trees) marks j) → ⊥)
    → (i : ℕ) → IsReached raw_definitions trees from i → Leads (mentions_of raw_definitions trees) marks i → ⊥
never-led raw_definitions trees from marks never _ (named_in tree j at in_row) l = never tree at (j, in_row, l)
never-led raw_definitions trees from marks never _ (mentioned i j r m) l = never-led raw_definitions trees from marks never i r (along i j m l)

pub never-marked : (raw_definitions : List RawDefinition) (trees : List (Option Regex)) (from : List Regex) (marks : List Bool)
    → ((tree : Regex) → Contains from tree → ((j : ℕ) × Contains (row_of raw_definitions tree) j × Leads (mentions_of raw_definitions trees) marks j) → ⊥)
    → (i : ℕ) → IsReached raw_definitions trees from i → is_marked marks i ≡ false
never-marked raw_definitions trees from marks never i r = by (is_marked marks i) refl where
  by : (b : Bool) → is_marked marks i ≡ b → is_marked marks i ≡ false
  by true e = absurd (never-led raw_definitions trees from marks never i r (itself i e))
  by false e = e

-- A definition that rules without a fault reach has a reading.
pub reached-readable : (table : SymbolTable) (raws : List RawRule) (resolved : List ResolvedRule) → HoldsOfNone (Holds table) (cases raws) → AreResolved table.start_conditions raws resolved
    → (i : ℕ) → IsReached table.definitions table.trees (patterns_in resolved) i → is_marked (unreadable_marks table.trees) i ≡ false
reached-readable table raws resolved clean are = never-marked table.definitions table.trees (patterns_in resolved) (unreadable_marks table.trees) (λ tree at. (safe-patterns table raws resolved clean are tree at).unreadable)

-- A definition that rules without a fault reach has only defined names.
pub reached-complete : (table : SymbolTable) (raws : List RawRule) (resolved : List ResolvedRule) → HoldsOfNone (Holds table) (cases raws) → AreResolved table.start_conditions raws resolved
    → (i : ℕ) → IsReached table.definitions table.trees (patterns_in resolved) i → is_marked (incomplete_marks table.definitions table.trees) i ≡ false
reached-complete table raws resolved clean are = never-marked table.definitions table.trees (patterns_in resolved) (incomplete_marks table.definitions table.trees) (λ tree at l. (safe-patterns table raws resolved clean are tree at).undefined (inr l))
