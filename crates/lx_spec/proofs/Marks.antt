-- The mentioners of a definition, marks that spread from mentioner to mentioner, and depths, one mention further.
use Rattle.std.proofs.lemmas.Bool.{eqb-true, eqb-false}
use Rattle.std.proofs.Math.ListN.{set}
use Rattle.std.proofs.Common.{[], ◌∷◌, ◌++◌, map, replicate, ◌≡◌, ◌≢◌, ◌∙◌, ◌↔◌, get_or-set_same, get_or-set_other, nat_eq, nat_le, ℕ, zero, suc, ◌+◌, ◌<◌, ◌≤◌, min, max, Bool, true, false, ◌⊎◌, inl, inr, List, Global, length, length-append, get_or, refl, sym, ap, subst, arith}
use Rattle.std.specs.Prelude.{slice_index, IsTrue, Contains}
use Rattle.std.specs.declared.vec.Vec.{Vec}
use Rattle.std.proofs.lemmas.List.{length-map, length-set, map-set, get_or-map}
use Rattle.std.proofs.lemmas.List.Elements.{Contains-get_or, Contains-push, Contains-push_cases, Contains-append_left}
use Rattle.std.proofs.lemmas.Bool.Decides.{nat_tests}
use Rattle.std.proofs.lemmas.Bool.{false≢true}
use borrow.Author.Count.{below_more}
use Rattle.lx_rules.specs.Limits.{max_name_depth}
use Rattle.lx_spec.specs.declared.graph.Mention.{Mention}
use Rattle.lx_spec.specs.Graph.{nowhere, IsMention, AreBelow, Leads, itself, along, AreMarked, list_at, is_marked, unmarked, Follow, AreSound, Reach}

-- a value at one place, and the others as they were
pub set_cases : {A : Type 0} (P : ℕ → A → Type 0) (xs : List A) (i : ℕ) (v d : A) → i < length xs → ((q : ℕ) → q ≢ i → P q (get_or xs q d)) → P i v → (q : ℕ) → P q (get_or (set xs i v) q d)
set_cases {A} P xs i v d less others here q = by (nat_eq q i) refl where
  by : (b : Bool) → nat_eq q i ≡ b → P q (get_or (set xs i v) q d)
  by true e =
      let same : q ≡ i = eqb-true q i e in
      let value : get_or (set xs i v) q d ≡ v = ap (λ (k : ℕ). get_or (set xs i v) k d) same ∙ get_or-set_same xs i v d less in
      subst (λ (w : A). P q w) (sym value) (subst (λ (x : ℕ). P x v) (sym same) here)
  by false e =
      let other : q ≢ i = eqb-false q i e in
      let value : get_or (set xs i v) q d ≡ get_or xs q d = get_or-set_other xs i q v d other in
      subst (λ (w : A). P q w) (sym value) (others q other)

marked-within : (marks : List Bool) (i : ℕ) → IsTrue (is_marked marks i) → i < length marks
marked-within [] i h = absurd (false≢true h)
marked-within (m ∷ marks) zero h = omega arith
marked-within (m ∷ marks) (suc i) h = let l = marked-within marks i h in omega (arith, l)

-- the list that was read at a place
list-read : (lists : List (Vec ℕ Global)) (j : ℕ) (list : Vec ℕ Global) → j < length lists → list ≡ get_or lists j list → list_at lists j ≡ list.items
list-read lists j list less e = get_or-map (λ (list : Vec ℕ Global). list.items) lists j list [] less ∙ ap (λ (list : Vec ℕ Global). list.items) (sym e)

-- The lists of those that mention each definition, after some of the mentions.
pub record Listing (ms : List Mention) (lists : List (Vec ℕ Global)) (n : ℕ) : Type 0 where
  pub only : (i j : ℕ) → Contains (list_at lists j) i → IsMention ms i j
  pub all : (k : ℕ) → k < n → Contains (list_at lists (get_or ms k nowhere).to) (get_or ms k nowhere).from

pub Listing-more : (ms : List Mention) (lists : List (Vec ℕ Global)) (n f t : ℕ) (old new : Vec ℕ Global) → Listing ms lists n → n < length ms → (get_or ms n nowhere).from ≡ f → (get_or ms n nowhere).to ≡ t → t < length lists
    → old ≡ get_or lists t old → new.items ≡ old.items ++ f ∷ [] → Listing ms (set lists t new) (n + 1)
Listing-more ms lists n f t old new l within from to less is items = record {
  only = λ i j. subst (λ (row : List ℕ). Contains row i → IsMention ms i j) (sym (row_is j))
      (set_cases (λ q row. Contains row i → IsMention ms i q) rows t new.items [] inside (λ q _. l.only i q) (λ c. this i (Contains-push_cases old.items f i (subst (λ (row : List ℕ). Contains row i) items c))) j);
  all = below_more (λ k. Contains (list_at (set lists t new) (get_or ms k nowhere).to) (get_or ms k nowhere).from) n
      (λ k before. kept (get_or ms k nowhere).to (get_or ms k nowhere).from (l.all k before))
      (subst (λ (q : ℕ). Contains (list_at (set lists t new) q) (get_or ms n nowhere).from) (sym to) (subst (λ (i : ℕ). Contains (list_at (set lists t new) t) i) (sym from)
      (subst (λ (row : List ℕ). Contains row f) (sym (row_is t ∙ get_or-set_same rows t new.items [] inside ∙ items)) (Contains-push old.items f))));
} where
  rows : List (List ℕ)
  rows = map (λ (list : Vec ℕ Global). list.items) lists

  inside : t < length rows
  inside = omega (arith, less, length-map lists (λ (list : Vec ℕ Global). list.items))

  row_is : (j : ℕ) → list_at (set lists t new) j ≡ get_or (set rows t new.items) j []
  row_is j = ap (λ (r : List (List ℕ)). get_or r j []) (map-set (λ (list : Vec ℕ Global). list.items) lists t new)

  was : list_at lists t ≡ old.items
  was = list-read lists t old less is

  this : (i : ℕ) → Contains old.items i ⊎ (f ≡ i) → IsMention ms i t
  this i (inl c) = l.only i t (subst (λ (row : List ℕ). Contains row i) (sym was) c)
  this i (inr e) = record { place = n; within = within; from = from ∙ e; to = to }

  kept : (j i : ℕ) → Contains (list_at lists j) i → Contains (list_at (set lists t new) j) i
  kept j i = subst (λ (row : List ℕ). Contains (list_at lists j) i → Contains row i) (sym (row_is j))
      (set_cases (λ q row. Contains (list_at lists q) i → Contains row i) rows t new.items [] inside (λ q _ c. c)
      (λ c. subst (λ (row : List ℕ). Contains row i) (sym items) (Contains-append_left old.items (f ∷ []) i (subst (λ (row : List ℕ). Contains row i) was c))) j)

pub Listing-whole : (ms : List Mention) (lists : List (Vec ℕ Global)) (n : ℕ) → Listing ms lists n → length ms ≤ n → (i j : ℕ) → Contains (list_at lists j) i ↔ IsMention ms i j
Listing-whole ms lists n l all i j = (
  l.only i j,
  λ m. subst (λ (q : ℕ). Contains (list_at lists q) i) m.to (subst (λ (f : ℕ). Contains (list_at lists (get_or ms m.place nowhere).to) f) m.from (l.all m.place (let w = m.within in omega (arith, w)))),
)

pub mentioner-below : (ms : List Mention) (n i j : ℕ) → AreBelow ms n → IsMention ms i j → i < n
mentioner-below ms n i j below m = let b = (below m.place m.within).0 in let e = m.from in omega (arith, b, e)

marks-one : (marks : List Bool) (i : ℕ) → i < length marks → is_marked marks i ≡ false → unmarked (set marks i true) + 1 ≡ unmarked marks
marks-one [] i less e = absurd (omega arith)
marks-one (true ∷ marks) zero less e = cc
marks-one (false ∷ marks) zero less e = omega arith
marks-one (true ∷ marks) (suc i) less e = marks-one marks i (omega arith) e
marks-one (false ∷ marks) (suc i) less e = let h = marks-one marks i (omega arith) e in omega (arith, h)

module _ (numbers : List ℕ) (old new : List Bool) (before after : List ℕ) (m : AreMarked numbers old new before after) (x : ℕ) where
  weaker : (i : ℕ) (A : Type 0) → A ⊎ Contains numbers i → A ⊎ Contains (numbers ++ x ∷ []) i
  weaker i A (inl a) = inl a
  weaker i A (inr c) = inr (Contains-append_left numbers (x ∷ []) i c)

  stacked : (i : ℕ) → Contains before i ⊎ ((is_marked old i ≡ false) × Contains numbers i) → Contains before i ⊎ ((is_marked old i ≡ false) × Contains (numbers ++ x ∷ []) i)
  stacked i (inl b) = inl b
  stacked i (inr (u, c)) = inr (u, Contains-append_left numbers (x ∷ []) i c)

  -- a number more that is marked already
  pub AreMarked-again : IsTrue (is_marked new x) → AreMarked (numbers ++ x ∷ []) old new before after
  AreMarked-again h = record {
    len = m.len;
    marks = λ i. (λ g. weaker i (IsTrue (is_marked old i)) ((m.marks i).0 g), back i);
    stack = λ i. (λ c. stacked i ((m.stack i).0 c), under i);
    each_once = m.each_once;
  } where
    back : (i : ℕ) → IsTrue (is_marked old i) ⊎ Contains (numbers ++ x ∷ []) i → IsTrue (is_marked new i)
    back i (inl a) = (m.marks i).1 (inl a)
    back i (inr c) = last (Contains-push_cases numbers x i c) where
      last : Contains numbers i ⊎ (x ≡ i) → IsTrue (is_marked new i)
      last (inl d) = (m.marks i).1 (inr d)
      last (inr e) = subst (λ (q : ℕ). IsTrue (is_marked new q)) e h

    under : (i : ℕ) → Contains before i ⊎ ((is_marked old i ≡ false) × Contains (numbers ++ x ∷ []) i) → Contains after i
    under i (inl b) = (m.stack i).1 (inl b)
    under i (inr (u, c)) = last (Contains-push_cases numbers x i c) where
      known : IsTrue (is_marked old i) ⊎ Contains numbers i → Contains after i
      known (inl a) = absurd (false≢true (sym u ∙ a))
      known (inr d) = (m.stack i).1 (inr (u, d))

      last : Contains numbers i ⊎ (x ≡ i) → Contains after i
      last (inl d) = (m.stack i).1 (inr (u, d))
      last (inr e) = known ((m.marks i).0 (subst (λ (q : ℕ). IsTrue (is_marked new q)) e h))

  -- a number more that isn't marked yet
  pub AreMarked-new : x < length new → is_marked new x ≡ false → AreMarked (numbers ++ x ∷ []) old (set new x true) before (after ++ x ∷ [])
  AreMarked-new less u = record {
    len = length-set new x true ∙ m.len;
    marks = set_cases (λ i b. IsTrue b ↔ (IsTrue (is_marked old i) ⊎ Contains (numbers ++ x ∷ []) i)) new x true false less
        (λ i other. (λ g. weaker i (IsTrue (is_marked old i)) ((m.marks i).0 g), back i other))
        (λ _. inr (Contains-push numbers x), λ _. refl);
    stack = λ i. (λ c. over i (Contains-push_cases after x i c), under i);
    each_once = let h = marks-one new x less u in let g = m.each_once in let l = length-append after (x ∷ []) in omega (arith, h, g, l);
  } where
    back : (i : ℕ) → i ≢ x → IsTrue (is_marked old i) ⊎ Contains (numbers ++ x ∷ []) i → IsTrue (is_marked new i)
    back i other (inl a) = (m.marks i).1 (inl a)
    back i other (inr c) = last (Contains-push_cases numbers x i c) where
      last : Contains numbers i ⊎ (x ≡ i) → IsTrue (is_marked new i)
      last (inl d) = (m.marks i).1 (inr d)
      last (inr e) = absurd (other (sym e))

    never : (b : Bool) → is_marked old x ≡ b → is_marked old x ≡ false
    never true e = absurd (false≢true (sym u ∙ (m.marks x).1 (inl e)))
    never false e = e

    over : (i : ℕ) → Contains after i ⊎ (x ≡ i) → Contains before i ⊎ ((is_marked old i ≡ false) × Contains (numbers ++ x ∷ []) i)
    over i (inl c) = stacked i ((m.stack i).0 c)
    over i (inr e) = subst (λ (q : ℕ). Contains before q ⊎ ((is_marked old q ≡ false) × Contains (numbers ++ x ∷ []) q)) e (inr (never (is_marked old x) refl, Contains-push numbers x))

    under : (i : ℕ) → Contains before i ⊎ ((is_marked old i ≡ false) × Contains (numbers ++ x ∷ []) i) → Contains (after ++ x ∷ []) i
    under i (inl b) = Contains-append_left after (x ∷ []) i ((m.stack i).1 (inl b))
    under i (inr (v, c)) = last (Contains-push_cases numbers x i c) where
      last : Contains numbers i ⊎ (x ≡ i) → Contains (after ++ x ∷ []) i
      last (inl d) = Contains-append_left after (x ∷ []) i ((m.stack i).1 (inr (v, d)))
      last (inr e) = subst (Contains (after ++ x ∷ [])) e (Contains-push after x)

-- the list that was read of the mentioners of a definition
pub mentioners-read : (ms : List Mention) (lists : List (Vec ℕ Global)) (j : ℕ) (list : Vec ℕ Global) (numbers : List ℕ) → ((i j : ℕ) → Contains (list_at lists j) i ↔ IsMention ms i j)
    → j < length lists → list ≡ get_or lists j list → numbers ≡ list.items → (i : ℕ) → Contains numbers i ↔ IsMention ms i j
mentioners-read ms lists j list numbers each less e is i = subst (λ (l : List ℕ). Contains l i ↔ IsMention ms i j) (list-read lists j list less e ∙ sym is) (each i j)

-- The marks while they spread: only a definition on the stack can be marked and have mentioners that aren't.
pub record Spreading (ms : List Mention) (initial marks : List Bool) (stack : List ℕ) : Type 0 where
  pub led : (i : ℕ) → IsTrue (is_marked marks i) → Leads ms initial i
  pub stay : (i : ℕ) → IsTrue (is_marked initial i) → IsTrue (is_marked marks i)
  pub waits : (i : ℕ) → Contains stack i → IsTrue (is_marked marks i)
  pub closed : (i j : ℕ) → IsMention ms i j → IsTrue (is_marked marks j) → Contains stack j ⊎ IsTrue (is_marked marks i)

pub Spreading-start : (ms : List Mention) (marks : List Bool) (stack : List ℕ) → ((i : ℕ) → Contains stack i ↔ IsTrue (is_marked marks i)) → Spreading ms marks marks stack
Spreading-start ms marks stack all = record { led = λ i h. itself i h; stay = λ i h. h; waits = λ i. (all i).0; closed = λ i j m h. inl ((all j).1 h) }

-- the top of the stack is the number of a definition
pub Spreading-top : (ms : List Mention) (initial marks : List Bool) (rest stack : List ℕ) (j : ℕ) → Spreading ms initial marks stack → stack ≡ rest ++ j ∷ [] → j < length marks
Spreading-top ms initial marks rest stack j s e = marked-within marks j (s.waits j (subst (λ (l : List ℕ). Contains l j) (sym e) (Contains-push rest j)))

-- the mentioners of the top of the stack were marked
pub Spreading-more : (ms : List Mention) (initial marks new : List Bool) (rest stack numbers : List ℕ) (j : ℕ) → Spreading ms initial marks (rest ++ j ∷ [])
    → ((i : ℕ) → Contains numbers i ↔ IsMention ms i j) → AreMarked numbers marks new rest stack → Spreading ms initial new stack
Spreading-more ms initial marks new rest stack numbers j s each m = record {
  led = λ i h. led i ((m.marks i).0 h);
  stay = λ i h. (m.marks i).1 (inl (s.stay i h));
  waits = λ i c. waits i ((m.stack i).0 c);
  closed = λ i k e h. closed i k e (is_marked marks k) refl ((m.marks k).0 h);
} where
  led : (i : ℕ) → IsTrue (is_marked marks i) ⊎ Contains numbers i → Leads ms initial i
  led i (inl h) = s.led i h
  led i (inr c) = along i j ((each i).0 c) (s.led j (s.waits j (Contains-push rest j)))

  waits : (i : ℕ) → Contains rest i ⊎ ((is_marked marks i ≡ false) × Contains numbers i) → IsTrue (is_marked new i)
  waits i (inl c) = (m.marks i).1 (inl (s.waits i (Contains-append_left rest (j ∷ []) i c)))
  waits i (inr (u, c)) = (m.marks i).1 (inr c)

  popped : (i k : ℕ) → IsMention ms i k → Contains rest k ⊎ (j ≡ k) → Contains stack k ⊎ IsTrue (is_marked new i)
  popped i k e (inl c) = inl ((m.stack k).1 (inl c))
  popped i k e (inr same) = inr ((m.marks i).1 (inr ((each i).1 (subst (IsMention ms i) (sym same) e))))

  before : (i k : ℕ) → IsMention ms i k → Contains (rest ++ j ∷ []) k ⊎ IsTrue (is_marked marks i) → Contains stack k ⊎ IsTrue (is_marked new i)
  before i k e (inl c) = popped i k e (Contains-push_cases rest j k c)
  before i k e (inr h) = inr ((m.marks i).1 (inl h))

  closed : (i k : ℕ) → IsMention ms i k → (b : Bool) → is_marked marks k ≡ b → IsTrue (is_marked marks k) ⊎ Contains numbers k → Contains stack k ⊎ IsTrue (is_marked new i)
  closed i k e true h w = before i k e (s.closed i k e h)
  closed i k e false u (inl h) = absurd (false≢true (sym u ∙ h))
  closed i k e false u (inr c) = inl ((m.stack k).1 (inr (u, c)))

-- once the stack is empty, each definition that leads to a mark is marked
pub Spreading-done : (ms : List Mention) (initial marks : List Bool) (stack : List ℕ) → Spreading ms initial marks stack → length stack ≡ 0 → (i : ℕ) → Leads ms initial i → IsTrue (is_marked marks i)
Spreading-done ms initial marks stack s none _ (itself i h) = s.stay i h
Spreading-done ms initial marks stack s none _ (along i j m l) = by (s.closed i j m (Spreading-done ms initial marks stack s none j l)) where
  by : Contains stack j ⊎ IsTrue (is_marked marks i) → IsTrue (is_marked marks i)
  by (inl (k, less, e)) = absurd (omega arith)
  by (inr h) = h

pub sound_one : (ms : List Mention) (ds : List ℕ) (k f t v : ℕ) → k < length ms → (get_or ms k nowhere).from ≡ f → (get_or ms k nowhere).to ≡ t → f < length ds → v ≡ max (slice_index ds f) (min (slice_index ds t) 31 + 1)
    → AreSound (IsMention ms) ds → AreSound (IsMention ms) (set ds f v)
sound_one ms ds k f t v within from to less e sound = set_cases (λ q d. (n : ℕ) → n ≤ d → Follow (IsMention ms) n q) ds f v 0 less (λ q _ n h. sound q n h) new where
  new : (n : ℕ) → n ≤ v → Follow (IsMention ms) n f
  new zero h = tt
  new (suc n) h = by (nat_le (suc n) (slice_index ds f)) refl where
    by : (b : Bool) → nat_le (suc n) (slice_index ds f) ≡ b → Follow (IsMention ms) (suc n) f
    by true g = sound f (suc n) (let le : suc n ≤ slice_index ds f = grind (arith, nat_tests) in le)
    by false g =
        let more : slice_index ds f < suc n = grind (arith, nat_tests) in
        let le : n ≤ slice_index ds t = omega (arith, h, e, more) in
        (t, record { place = k; within = within; from = from; to = to }, sound t n le)

pub grow_one : (old ds : List ℕ) (f v : ℕ) → f < length ds → slice_index ds f ≤ v → ((q : ℕ) → slice_index old q ≤ slice_index ds q) → (q : ℕ) → slice_index old q ≤ slice_index (set ds f v) q
grow_one old ds f v less le grow = set_cases (λ q d. slice_index old q ≤ d) ds f v 0 less (λ q _. grow q) (let h : slice_index old f ≤ slice_index ds f = grow f in omega (arith, h, le))

pub done_one : (ms : List Mention) (old ds : List ℕ) (i f t v : ℕ) → (get_or ms i nowhere).from ≡ f → (get_or ms i nowhere).to ≡ t → f < length ds → v ≡ max (slice_index ds f) (min (slice_index ds t) 31 + 1)
    → ((q : ℕ) → slice_index old q ≤ slice_index ds q)
    → ((k : ℕ) → k < i → min (slice_index old (get_or ms k nowhere).to) 31 + 1 ≤ slice_index ds (get_or ms k nowhere).from)
    → (k : ℕ) → k < i + 1 → min (slice_index old (get_or ms k nowhere).to) 31 + 1 ≤ slice_index (set ds f v) (get_or ms k nowhere).from
done_one ms old ds i f t v from to less e grow done =
    let kept : (q : ℕ) → slice_index ds q ≤ slice_index (set ds f v) q = grow_one ds ds f v less (omega arith) (λ q. omega arith) in
    let here : slice_index (set ds f v) f ≡ v = get_or-set_same ds f v 0 less in
    below_more (λ k. min (slice_index old (get_or ms k nowhere).to) 31 + 1 ≤ slice_index (set ds f v) (get_or ms k nowhere).from) i
    (λ k less'. let a = done k less' in let b = kept (get_or ms k nowhere).from in omega (arith, a, b))
    (let g : slice_index old t ≤ slice_index ds t = grow t in
    let at : slice_index (set ds f v) (get_or ms i nowhere).from ≡ v = ap (slice_index (set ds f v)) from ∙ here in
    let was : slice_index old (get_or ms i nowhere).to ≡ slice_index old t = ap (slice_index old) to in
    omega (arith, g, at, was, e))

pub reach_more : (ms : List Mention) (old ds : List ℕ) (most : ℕ) → most < max_name_depth → Reach (IsMention ms) old most
    → ((k : ℕ) → k < length ms → min (slice_index old (get_or ms k nowhere).to) 31 + 1 ≤ slice_index ds (get_or ms k nowhere).from) → Reach (IsMention ms) ds (most + 1)
reach_more ms old ds most small reach done i zero le f = omega arith
reach_more ms old ds most small reach done i (suc n) le (j, m, f) =
    let within : n ≤ most = omega arith in
    let behind : n ≤ slice_index old j = reach j n within f in
    let d : min (slice_index old (get_or ms m.place nowhere).to) 31 + 1 ≤ slice_index ds (get_or ms m.place nowhere).from = done m.place m.within in
    let to : slice_index old (get_or ms m.place nowhere).to ≡ slice_index old j = ap (slice_index old) m.to in
    let from : slice_index ds (get_or ms m.place nowhere).from ≡ slice_index ds i = ap (slice_index ds) m.from in
    omega (arith, behind, d, to, from, small, within)

none_yet : (M : ℕ → ℕ → Type 0) (n i : ℕ) → n ≤ 0 → Follow M n i
none_yet M zero i le = tt
none_yet M (suc n) i le = absurd (omega arith)

all_zero : (count i : ℕ) → slice_index (replicate count 0) i ≡ 0
all_zero zero i = refl
all_zero (suc count) zero = refl
all_zero (suc count) (suc i) = all_zero count i

-- before the first round
pub sound_zero : (M : ℕ → ℕ → Type 0) (count : ℕ) → AreSound M (replicate count 0)
sound_zero M count i n le = none_yet M n i (omega (arith, all_zero count i))

pub reach_zero : (M : ℕ → ℕ → Type 0) (depths : List ℕ) → Reach M depths 0
reach_zero M depths i n le f = omega arith

-- an element that was read, with any default past the end
pub read_at : {A : Type 0} (xs : List A) (i : ℕ) (r d : A) → i < length xs → r ≡ get_or xs i r → get_or xs i d ≡ r
read_at [] i r d less e = absurd (omega arith)
read_at (x ∷ xs) zero r d less e = sym e
read_at (x ∷ xs) (suc i) r d less e = read_at xs i r d (omega arith) e

-- the depths that are `max_name_depth` or more
pub deep_marks : (ds : List ℕ) (i : ℕ) → get_or (map (λ d. nat_le max_name_depth d) ds) i false ≡ nat_le max_name_depth (slice_index ds i)
deep_marks [] i = refl
deep_marks (d ∷ ds) zero = refl
deep_marks (d ∷ ds) (suc i) = deep_marks ds i

-- one of the numbers is marked, if the mark was found at a place; or none is
pub some_marked : (numbers : List ℕ) (marks : List Bool) (k : ℕ) → k < length numbers → is_marked marks (get_or numbers k 0) ≡ true → (j : ℕ) × Contains numbers j × IsTrue (is_marked marks j)
some_marked numbers marks k less e = (get_or numbers k 0, Contains-get_or numbers k 0 less, e)

pub none_marked : (numbers : List ℕ) (marks : List Bool) → ((k : ℕ) → k < length numbers → is_marked marks (get_or numbers k 0) ≡ false) → (j : ℕ) → Contains numbers j → IsTrue (is_marked marks j) → ⊥
none_marked numbers marks none j (k, less, e) h =
    let same : get_or numbers k 0 ≡ j = read_at numbers k j 0 less (sym e) in
    false≢true (sym (none k less) ∙ ap (is_marked marks) same ∙ h)
