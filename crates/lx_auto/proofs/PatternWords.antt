-- A pattern matches the byte words of its written-out expression.
use Rattle.std.proofs.Common.{◌≡◌, ◌∙◌, ◌↔◌, ℕ, zero, suc, ◌+◌, ◌≤◌, ◌⊎◌, inl, inr, IsTrue, Bool, true, false, ◌||◌, not, cond, nat_eq, List, [], ◌∷◌, Option, Some, None, map, refl, ap, sym, subst, arith}
use Rattle.std.specs.Prelude.{slice_get, IfSome}
use Rattle.std.specs.List.{list_all, list_any}
use Rattle.std.specs.Cmp.Lexicographic.{pointwise}
use Rattle.std.proofs.lemmas.Bool.{false≢true}
use Rattle.std.proofs.lemmas.Slice.Eq.{bytes_eq-Decides}
use Rattle.std.proofs.lemmas.Bool.{leb-true}
use Rattle.lx_ere.specs.Bounds.{is_ordered, has_ordered_bounds}
use Rattle.lx_ere.specs.Regex.{Regex, nil, one_of, then, or, times, named}
use Rattle.lx_ere.specs.Matching.{Splits, Repeats, RepeatsBetween, Matches}
use Rattle.lx_rules.specs.Invariant.{are_distinct, are_definitions}
use Rattle.lx_rules.specs.Names.{names_of, Defines, DefinedMatches, NameMatches}
use Rattle.lx_rules.specs.Nesting.{tree_named, holds_of, is_no_name, is_within}
use Rattle.lx_rules.specs.Plain.{PlainDefinition}
use Rattle.lx_auto.specs.Unfolded.{Unfolded, cat, alt, opt, plus, position_count, Joined, ByteWord}
use Rattle.lx_auto.specs.WrittenOut.{counted, unbounded, repeated, written_out, written_if_defined, name_written_out, pattern_written_out}
use Rattle.lx_auto.proofs.Appending.{and-left, and-right, all-left, all-right}

-- two languages with the same words, at each place
pub record AreWords (P : List ℕ → Type 0) (r : Unfolded) : Type 0 where
  pub into : (k : ℕ) (w : List ℕ) → P w → ByteWord r k w
  pub back : (k : ℕ) (w : List ℕ) → ByteWord r k w → P w

words-then : (P Q : List ℕ → Type 0) (a b : Unfolded) → AreWords P a → AreWords Q b → AreWords (Splits P Q) (cat a b)
words-then P Q a b x y = record {
  into = λ k w h. (h.0, h.1, h.4, x.into k h.0 h.2, y.into (k + position_count a) h.1 h.3);
  back = λ k w h. (h.0, h.1, x.back k h.0 h.3, y.back (k + position_count a) h.1 h.4, h.2);
}

words-or : (P Q : List ℕ → Type 0) (a b : Unfolded) → AreWords P a → AreWords Q b → AreWords (λ w. P w ⊎ Q w) (alt a b)
words-or P Q a b x y = record {
  into = λ k w h. elim h [ inl u ↦ inl (x.into k w u) | inr v ↦ inr (y.into (k + position_count a) w v) ];
  back = λ k w h. elim h [ inl u ↦ inl (x.back k w u) | inr v ↦ inr (y.back (k + position_count a) w v) ];
}

-- counted repeats
counted-into : (P : List ℕ → Type 0) (r : Unfolded) → AreWords P r → (low high n k : ℕ) (w : List ℕ) → low ≤ n → n ≤ high → Repeats P n w → ByteWord (counted r low high) k w
counted-into P r x low zero zero k w l h t = t
counted-into P r x low zero (suc n) k w l h t = absurd (omega arith)
counted-into P r x zero (suc high) zero k w l h t = inl t
counted-into P r x zero (suc high) (suc n) k w l h t = inr (t.0, t.1, t.4, x.into k t.0 t.2, counted-into P r x zero high n (k + position_count r) t.1 (omega arith) (omega arith) t.3)
counted-into P r x (suc low) (suc high) zero k w l h t = absurd (omega arith)
counted-into P r x (suc low) (suc high) (suc n) k w l h t = (t.0, t.1, t.4, x.into k t.0 t.2, counted-into P r x low high n (k + position_count r) t.1 (omega arith) (omega arith) t.3)

counted-back : (P : List ℕ → Type 0) (r : Unfolded) → AreWords P r → (low high k : ℕ) (w : List ℕ) → low ≤ high → ByteWord (counted r low high) k w → (n : ℕ) × (low ≤ n) × (n ≤ high) × Repeats P n w
counted-back P r x low zero k w h t = (0, omega arith, omega arith, t)
counted-back P r x zero (suc high) k w h t = elim t [
  | inl e ↦ (0, omega arith, omega arith, e)
  | inr u ↦
      let s = counted-back P r x zero high (k + position_count r) u.1 (omega arith) u.4 in
      (suc s.0, omega arith, (let b = s.2 in omega arith), (u.0, u.1, x.back k u.0 u.3, s.3, u.2))
]
counted-back P r x (suc low) (suc high) k w h t =
    let s = counted-back P r x low high (k + position_count r) t.1 (omega arith) t.4 in
    (suc s.0, (let a = s.1 in omega arith), (let b = s.2 in omega arith), (t.0, t.1, x.back k t.0 t.3, s.3, t.2))

-- repeats without a bound
joined-into : (P : List ℕ → Type 0) (r : Unfolded) → AreWords P r → (n k : ℕ) (w : List ℕ) → Repeats P n w → Joined (ByteWord r k) n w
joined-into P r x zero k w t = t
joined-into P r x (suc n) k w t = (t.0, t.1, t.4, x.into k t.0 t.2, joined-into P r x n k t.1 t.3)

joined-back : (P : List ℕ → Type 0) (r : Unfolded) → AreWords P r → (n k : ℕ) (w : List ℕ) → Joined (ByteWord r k) n w → Repeats P n w
joined-back P r x zero k w t = t
joined-back P r x (suc n) k w t = (t.0, t.1, x.back k t.0 t.3, joined-back P r x n k t.1 t.4, t.2)

unbounded-into : (P : List ℕ → Type 0) (r : Unfolded) → AreWords P r → (low n k : ℕ) (w : List ℕ) → suc low ≤ n → Repeats P n w → ByteWord (unbounded r low) k w
unbounded-into P r x low zero k w l t = absurd (omega arith)
unbounded-into P r x zero (suc n) k w l t = (n, joined-into P r x (suc n) k w t)
unbounded-into P r x (suc low) (suc n) k w l t = (t.0, t.1, t.4, x.into k t.0 t.2, unbounded-into P r x low n (k + position_count r) t.1 (omega arith) t.3)

unbounded-back : (P : List ℕ → Type 0) (r : Unfolded) → AreWords P r → (low k : ℕ) (w : List ℕ) → ByteWord (unbounded r low) k w → (n : ℕ) × (suc low ≤ n) × Repeats P n w
unbounded-back P r x zero k w t = (suc t.0, omega arith, joined-back P r x (suc t.0) k w t.1)
unbounded-back P r x (suc low) k w t =
    let s = unbounded-back P r x low (k + position_count r) t.1 t.4 in
    (suc s.0, (let a = s.1 in omega arith), (t.0, t.1, x.back k t.0 t.3, s.2, t.2))

any-into : (P : List ℕ → Type 0) (r : Unfolded) → AreWords P r → (n k : ℕ) (w : List ℕ) → Repeats P n w → ByteWord (opt (plus r)) k w
any-into P r x zero k w t = inl t
any-into P r x (suc n) k w t = inr (n, joined-into P r x (suc n) k w t)

any-back : (P : List ℕ → Type 0) (r : Unfolded) → AreWords P r → (k : ℕ) (w : List ℕ) → ByteWord (opt (plus r)) k w → (n : ℕ) × Repeats P n w
any-back P r x k w t = elim t [
  | inl e ↦ (0, e)
  | inr u ↦ (suc u.0, joined-back P r x (suc u.0) k w u.1)
]

bounds-low : (low : ℕ) (high : Option ℕ) → IsTrue (is_ordered low high) → IfSome high (λ most. low ≤ most)
bounds-low low (Some high) h = leb-true low high h
bounds-low low None h = tt

words-times : (P : List ℕ → Type 0) (r : Unfolded) (low : ℕ) (high : Option ℕ) → IfSome high (λ most. low ≤ most) → AreWords P r → AreWords (RepeatsBetween P low high) (repeated r low high)
words-times P r low (Some high) o x = record {
  into = λ k w t. counted-into P r x low high t.0 k w t.1 t.2 t.3;
  back = λ k w t. counted-back P r x low high k w o t;
}
words-times P r zero None o x = record {
  into = λ k w t. any-into P r x t.0 k w t.3;
  back = λ k w t. let s = any-back P r x k w t in (s.0, omega arith, tt, s.1);
}
words-times P r (suc low) None o x = record {
  into = λ k w t. unbounded-into P r x low t.0 k w t.1 t.3;
  back = λ k w t. let s = unbounded-back P r x low k w t in (s.0, s.1, tt, s.2);
}

-- an expression, if its names have the same words
words-tree : (N : List ℕ → List ℕ → Type 0) (f : List ℕ → Unfolded) (good : List ℕ → Bool) → ((name : List ℕ) → IsTrue (good name) → AreWords (N name) (f name)) → (tree : Regex)
    → IsTrue (has_ordered_bounds tree) → IsTrue (list_all good (names_of tree)) → AreWords (Matches N tree) (written_out f tree)
words-tree N f good h nil o w = record { into = λ k v t. t; back = λ k v t. t }
words-tree N f good h (one_of s) o w = record { into = λ k v t. t; back = λ k v t. t }
words-tree N f good h (then a b) o w =
    words-then (Matches N a) (Matches N b) (written_out f a) (written_out f b) (words-tree N f good h a (and-left (has_ordered_bounds a) (has_ordered_bounds b) o) (all-left good (names_of a) (names_of b) w)) (words-tree N f good h b (and-right (has_ordered_bounds a) (has_ordered_bounds b) o) (all-right good (names_of a) (names_of b) w))
words-tree N f good h (or a b) o w =
    words-or (Matches N a) (Matches N b) (written_out f a) (written_out f b) (words-tree N f good h a (and-left (has_ordered_bounds a) (has_ordered_bounds b) o) (all-left good (names_of a) (names_of b) w)) (words-tree N f good h b (and-right (has_ordered_bounds a) (has_ordered_bounds b) o) (all-right good (names_of a) (names_of b) w))
words-tree N f good h (times body low high) o w = words-times (Matches N body) (written_out f body) low high (bounds-low low high (and-left (is_ordered low high) (has_ordered_bounds body) o)) (words-tree N f good h body (and-right (is_ordered low high) (has_ordered_bounds body) o) w)
words-tree N f good h (named name) o w = let x = h name (and-left (good name) true w) in record { into = λ k v t. x.into k v t; back = λ k v t. x.back k v t }

-- a definition of the list is the first with its name, if no two have the same name
one-of_them : (ds : List PlainDefinition) (name : List ℕ) (i : ℕ) (d : PlainDefinition) → slice_get ds i ≡ Some d → pointwise nat_eq d.name name ≡ true
    → list_any (λ other. pointwise nat_eq other name) (map (λ x. x.name) ds) ≡ true
one-of_them [] name i d at is = absurd (let f : None ≡ Some d = at in cc)
one-of_them (x ∷ xs) name zero d at is =
    let same : x ≡ d = (let f : Some x ≡ Some d = at in cc) in
    ap (λ (b : Bool). b || list_any (λ other. pointwise nat_eq other name) (map (λ y. y.name) xs)) (ap (λ (y : PlainDefinition). pointwise nat_eq y.name name) same ∙ is)
one-of_them (x ∷ xs) name (suc i) d at is = by (pointwise nat_eq x.name name) (one-of_them xs name i d at is) where
  by : (b : Bool) → list_any (λ other. pointwise nat_eq other name) (map (λ y. y.name) xs) ≡ true → b || list_any (λ other. pointwise nat_eq other name) (map (λ y. y.name) xs) ≡ true
  by true h = refl
  by false h = h

first-defined : (ds : List PlainDefinition) (name : List ℕ) (i : ℕ) (d : PlainDefinition) → IsTrue (are_distinct (map (λ x. x.name) ds)) → slice_get ds i ≡ Some d → d.name ≡ name → tree_named ds name ≡ Some d.tree
first-defined [] name i d w at is = absurd (let f : None ≡ Some d = at in cc)
first-defined (x ∷ xs) name zero d w at is =
    let same : x ≡ d = (let f : Some x ≡ Some d = at in cc) in
    let equal : pointwise nat_eq x.name name ≡ true = (bytes_eq-Decides x.name name).1 (ap (λ (y : PlainDefinition). y.name) same ∙ is) in
    ap (λ (b : Bool). cond b (Some x.tree) (tree_named xs name)) equal ∙ ap (λ (y : PlainDefinition). Some y.tree) same
first-defined (x ∷ xs) name (suc i) d w at is = by (pointwise nat_eq x.name name) refl (first-defined xs name i d (and-right (not others) (are_distinct (map (λ y. y.name) xs)) w) at is) where
  others : Bool
  others = list_any (λ other. pointwise nat_eq other x.name) (map (λ y. y.name) xs)

  by : (b : Bool) → pointwise nat_eq x.name name ≡ b → tree_named xs name ≡ Some d.tree → cond b (Some x.tree) (tree_named xs name) ≡ Some d.tree
  by false e h = h
  by true e h =
      let same : d.name ≡ x.name = is ∙ sym ((bytes_eq-Decides x.name name).0 e) in
      let any : others ≡ true = one-of_them xs x.name i d at ((bytes_eq-Decides d.name x.name).1 same) in
      absurd (false≢true (ap not (sym any) ∙ and-left (not others) (are_distinct (map (λ y. y.name) xs)) w))

pub some-defined : (ds : List PlainDefinition) (name : List ℕ) (t : Regex) → tree_named ds name ≡ Some t → (d : PlainDefinition) × Defines ds name d × (d.tree ≡ t)
some-defined [] name t e = absurd (let f : None ≡ Some t = e in cc)
some-defined (x ∷ xs) name t e = by (pointwise nat_eq x.name name) refl e (some-defined xs name t) where
  by : (b : Bool) → pointwise nat_eq x.name name ≡ b → cond b (Some x.tree) (tree_named xs name) ≡ Some t → (tree_named xs name ≡ Some t → (d : PlainDefinition) × Defines xs name d × (d.tree ≡ t))
      → (d : PlainDefinition) × Defines (x ∷ xs) name d × (d.tree ≡ t)
  by true q h f = (x, record { place = 0; at = refl; is = (bytes_eq-Decides x.name name).0 q }, (let g : Some x.tree ≡ Some t = h in cc))
  by false q h f = let r = f h in (r.0, record { place = suc r.1.place; at = r.1.at; is = r.1.is }, r.2)

-- the expressions of all definitions have bounds in order
pub record AreOrdered (definitions : List PlainDefinition) : Type 0 where
  pub at : (name : List ℕ) (tree : Regex) → tree_named definitions name ≡ Some tree → IsTrue (has_ordered_bounds tree)

-- the words of a defined name, nested no deeper than allowed
words-name : (ds : List PlainDefinition) (n : ℕ) → IsTrue (are_distinct (map (λ x. x.name) ds)) → AreOrdered ds
    → ((tree : Regex) → IsTrue (has_ordered_bounds tree) → IsTrue (is_within n ds tree) → AreWords (Matches (NameMatches ds n) tree) (written_out (name_written_out ds n) tree))
    → (name : List ℕ) → IsTrue (holds_of (is_within n ds) (tree_named ds name)) → AreWords (NameMatches ds (suc n) name) (name_written_out ds (suc n) name)
words-name ds n w o f name h = by (tree_named ds name) refl h where
  N : List ℕ → List ℕ → Type 0
  N = NameMatches ds n

  by : (t : Option Regex) → tree_named ds name ≡ t → IsTrue (holds_of (is_within n ds) t) → AreWords (DefinedMatches N ds name) (written_if_defined (name_written_out ds n) t)
  by None e g = absurd (false≢true g)
  by (Some tree) e g =
      let x = f tree (o.at name tree e) g in
      record {
        into = λ k v m.
            let same : m.0.tree ≡ tree = (let p : Some m.0.tree ≡ Some tree = sym (first-defined ds name m.1.place m.0 w m.1.at m.1.is) ∙ e in cc) in
            x.into k v (subst (λ (t : Regex). Matches N t v) same m.2);
        back = λ k v m. let d = some-defined ds name tree e in (d.0, d.1, subst (λ (t : Regex). Matches N t v) (sym d.2) (x.back k v m));
      }

nothing-good : (names : List (List ℕ)) → IsTrue (is_no_name names) → IsTrue (list_all (λ name. false) names)
nothing-good [] h = refl
nothing-good (name ∷ names) h = h

pub words-within : (ds : List PlainDefinition) → IsTrue (are_distinct (map (λ x. x.name) ds)) → AreOrdered ds → (n : ℕ) (tree : Regex) → IsTrue (has_ordered_bounds tree) → IsTrue (is_within n ds tree)
    → AreWords (Matches (NameMatches ds n) tree) (written_out (name_written_out ds n) tree)
words-within ds w o zero tree b h = words-tree (NameMatches ds 0) (name_written_out ds 0) (λ name. false) (λ name f. absurd (false≢true f)) tree b (nothing-good (names_of tree) h)
words-within ds w o (suc n) tree b h =
    words-tree (NameMatches ds (suc n)) (name_written_out ds (suc n)) (λ name. holds_of (is_within n ds) (tree_named ds name)) (words-name ds n w o (words-within ds w o n)) tree b h

-- the words that a pattern matches
pub pattern-words : (ds : List PlainDefinition) (tree : Regex) → IsTrue (are_definitions ds) → AreOrdered ds → IsTrue (has_ordered_bounds tree) → IsTrue (is_within 32 ds tree) → (k : ℕ) (w : List ℕ)
    → Matches (NameMatches ds 32) tree w ↔ ByteWord (pattern_written_out ds tree) k w
unfolding are_definitions pattern_written_out
pattern-words ds tree d o b h k w = let x = words-within ds d o 32 tree b h in (x.into k w, x.back k w)
