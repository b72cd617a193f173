-- The nodes that are appended for an expression, from those that are appended for its parts.
use Rattle.std.proofs.Common.{◌≡◌, ◌∙◌, ℕ, zero, suc, ◌-◌, ◌<◌, ◌≤◌, IsTrue, Bool, true, false, ◌&&◌, List, [], ◌∷◌, ◌++◌, map, Option, Some, None, refl, ap, sym, subst, arith, append_assoc, nat_eq}
use Rattle.std.specs.FinSet as set
use Rattle.std.specs.List.{list_all}
use Rattle.std.specs.Ordering.{nat_cmp}
use Rattle.std.proofs.lemmas.Bool.{false≢true}
use Rattle.std.proofs.lemmas.Bool.Decides.{nat_tests}
use Rattle.std.proofs.lemmas.List.{append-nil}
use Rattle.std.proofs.lemmas.List.Folds.{list_all-append}
use Rattle.lx_ere.specs.Regex.{Regex, nil, one_of, then, or, times, named}
use Rattle.lx_rules.specs.Names.{names_of}
use Rattle.lx_rules.specs.Nesting.{tree_named, holds_of, is_no_name, is_within}
use Rattle.lx_rules.specs.Plain.{PlainDefinition}
use Rattle.lx_rules.specs.views.Rules.{definition_view}
use Rattle.lx_rules.specs.declared.definition.Definition.{Definition}
use Rattle.lx_auto.specs.Unfolded.{Unfolded, empty, leaf}
use Rattle.lx_auto.specs.Nodes.{PlainNode, nodes_of}
use Rattle.lx_auto.specs.Simplified.{cat_of, alt_of, simplified_repeated, simplified, simplified_if_defined, simplified_name}
use Rattle.lx_auto.specs.Parts.{part_of}
use Rattle.lx_auto.specs.NameViews.{place_of, tree_at}
use Rattle.lx_auto.specs.NodeViews.{Appends, Joins, Changes}
use Rattle.lx_auto.specs.Copies.{is_no_copy}
use Rattle.lx_auto.specs.Unfolding.{Unfolds, UnfoldsName}
use Rattle.lx_auto.specs.declared.unfolding.part.Part.{Part}
use Rattle.lx_auto.proofs.Naming.{place-tree}

pub and-left : (a b : Bool) → IsTrue (a && b) → IsTrue a
and-left true b h = refl
and-left false b h = h

pub and-right : (a b : Bool) → IsTrue (a && b) → IsTrue b
and-right true b h = h
and-right false b h = absurd (false≢true h)

no-name-left : (xs ys : List (List ℕ)) → IsTrue (is_no_name (xs ++ ys)) → IsTrue (is_no_name xs)
no-name-left [] ys h = refl
no-name-left (x ∷ xs) ys h = h

no-name-right : (xs ys : List (List ℕ)) → IsTrue (is_no_name (xs ++ ys)) → IsTrue (is_no_name ys)
no-name-right [] ys h = h
no-name-right (x ∷ xs) ys h = absurd (false≢true h)

pub all-left : (p : List ℕ → Bool) (xs ys : List (List ℕ)) → IsTrue (list_all p (xs ++ ys)) → IsTrue (list_all p xs)
all-left p xs ys h = and-left (list_all p xs) (list_all p ys) (sym (list_all-append p xs ys) ∙ h)

pub all-right : (p : List ℕ → Bool) (xs ys : List (List ℕ)) → IsTrue (list_all p (xs ++ ys)) → IsTrue (list_all p ys)
all-right p xs ys h = and-right (list_all p xs) (list_all p ys) (sym (list_all-append p xs ys) ∙ h)

-- a part of an expression has its names no deeper
pub then-left : (m : ℕ) (definitions : List PlainDefinition) (a b : Regex) → IsTrue (is_within m definitions (then a b)) → IsTrue (is_within m definitions a)
then-left zero definitions a b h = no-name-left (names_of a) (names_of b) h
then-left (suc m) definitions a b h = all-left (λ name. holds_of (is_within m definitions) (tree_named definitions name)) (names_of a) (names_of b) h

pub then-right : (m : ℕ) (definitions : List PlainDefinition) (a b : Regex) → IsTrue (is_within m definitions (then a b)) → IsTrue (is_within m definitions b)
then-right zero definitions a b h = no-name-right (names_of a) (names_of b) h
then-right (suc m) definitions a b h = all-right (λ name. holds_of (is_within m definitions) (tree_named definitions name)) (names_of a) (names_of b) h

pub or-left : (m : ℕ) (definitions : List PlainDefinition) (a b : Regex) → IsTrue (is_within m definitions (or a b)) → IsTrue (is_within m definitions a)
or-left zero definitions a b h = no-name-left (names_of a) (names_of b) h
or-left (suc m) definitions a b h = all-left (λ name. holds_of (is_within m definitions) (tree_named definitions name)) (names_of a) (names_of b) h

pub or-right : (m : ℕ) (definitions : List PlainDefinition) (a b : Regex) → IsTrue (is_within m definitions (or a b)) → IsTrue (is_within m definitions b)
or-right zero definitions a b h = no-name-right (names_of a) (names_of b) h
or-right (suc m) definitions a b h = all-right (λ name. holds_of (is_within m definitions) (tree_named definitions name)) (names_of a) (names_of b) h

pub times-body : (m : ℕ) (definitions : List PlainDefinition) (body : Regex) (low : ℕ) (high : Option ℕ) → IsTrue (is_within m definitions (times body low high)) → IsTrue (is_within m definitions body)
times-body zero definitions body low high h = h
times-body (suc m) definitions body low high h = h

appends-nothing : (old : List PlainNode) → Appends empty old old (part_of empty)
appends-nothing old = record { nodes = sym (append-nil old); part = refl }

pub unfolds-nil : (definitions : List PlainDefinition) (depth : ℕ) (old : List PlainNode) → Unfolds definitions depth nil old old (part_of empty)
unfolds-nil definitions depth old = record { at = λ m le w. appends-nothing old }

pub unfolds-leaf : (definitions : List PlainDefinition) (depth : ℕ) (s : set.FinSet nat_cmp) (old new : List PlainNode) (p : Part) → Appends (leaf s) old new p → Unfolds definitions depth (one_of s) old new p
unfolds-leaf definitions depth s old new p h = record { at = λ m le w. h }

two-appended : (a b : Unfolded) (old mid new : List PlainNode) (p q : Part) → Appends a old mid p → Appends b mid new q → new ≡ old ++ (nodes_of a ++ nodes_of b)
two-appended a b old mid new p q x y = y.nodes ∙ ap (λ (l : List PlainNode). l ++ nodes_of b) x.nodes ∙ append_assoc old (nodes_of a) (nodes_of b)

pub unfolds-then : (definitions : List PlainDefinition) (depth : ℕ) (a b : Regex) (old mid new last : List PlainNode) (left right p : Part)
    → Unfolds definitions depth a old mid left → Unfolds definitions depth b mid new right → Joins cat_of new last left right p → Unfolds definitions depth (then a b) old last p
unfolds-then definitions depth a b old mid new last left right p x y j = record {
  at = λ m le w.
      let f = x.at m le (then-left m definitions a b w) in
      let g = y.at m le (then-right m definitions a b w) in
      let ta = simplified (simplified_name definitions m) a in
      let tb = simplified (simplified_name definitions m) b in
      j old ta tb (two-appended ta tb old mid new left right f g) f.part g.part;
}

pub unfolds-or : (definitions : List PlainDefinition) (depth : ℕ) (a b : Regex) (old mid new last : List PlainNode) (left right p : Part)
    → Unfolds definitions depth a old mid left → Unfolds definitions depth b mid new right → Joins alt_of new last left right p → Unfolds definitions depth (or a b) old last p
unfolds-or definitions depth a b old mid new last left right p x y j = record {
  at = λ m le w.
      let f = x.at m le (or-left m definitions a b w) in
      let g = y.at m le (or-right m definitions a b w) in
      let ta = simplified (simplified_name definitions m) a in
      let tb = simplified (simplified_name definitions m) b in
      j old ta tb (two-appended ta tb old mid new left right f g) f.part g.part;
}

no-copies : (r : Unfolded) (low : ℕ) (high : Option ℕ) → is_no_copy high ≡ true → simplified_repeated r low high ≡ empty
no-copies r low None h = absurd (false≢true h)
no-copies r low (Some zero) h = refl
no-copies r low (Some (suc n)) h = absurd (let e : nat_eq (suc n) 0 ≡ true = h in grind (arith, nat_tests))

pub unfolds-none : (definitions : List PlainDefinition) (depth : ℕ) (body : Regex) (low : ℕ) (high : Option ℕ) (old : List PlainNode) → is_no_copy high ≡ true
    → Unfolds definitions depth (times body low high) old old (part_of empty)
unfolds-none definitions depth body low high old h = record {
  at = λ m le w. subst (λ (t : Unfolded). Appends t old old (part_of empty)) (sym (no-copies (simplified (simplified_name definitions m) body) low high h)) (appends-nothing old);
}

pub unfolds-times : (definitions : List PlainDefinition) (depth : ℕ) (body : Regex) (low : ℕ) (high : Option ℕ) (old new last : List PlainNode) (part p : Part)
    → Unfolds definitions depth body old new part → Changes (λ r. simplified_repeated r low high) new last part p → Unfolds definitions depth (times body low high) old last p
unfolds-times definitions depth body low high old new last part p x j = record {
  at = λ m le w.
      let f = x.at m le (times-body m definitions body low high w) in
      j old (simplified (simplified_name definitions m) body) f.nodes f.part;
}

pub unfolds-named : (definitions : List Definition) (depth : ℕ) (name : List ℕ) (o : Option ℕ) (old new : List PlainNode) (p : Part) → place_of definitions name ≡ o
    → UnfoldsName (map definition_view definitions) depth (tree_at definitions o) old new p → Unfolds (map definition_view definitions) depth (named name) old new p
unfolds-named definitions depth name o old new p e h = record { at = by } where
  plain : List PlainDefinition
  plain = map definition_view definitions

  is : tree_at definitions o ≡ tree_named plain name
  is = ap (tree_at definitions) (sym e) ∙ sym (place-tree definitions name)

  by : (m : ℕ) → m ≤ depth → IsTrue (is_within m plain (named name)) → Appends (simplified (simplified_name plain m) (named name)) old new p
  by zero le w = absurd (false≢true w)
  by (suc m) le w =
      let holds : IsTrue (holds_of (is_within m plain) (tree_named plain name)) = and-left (holds_of (is_within m plain) (tree_named plain name)) true w in
      subst (λ (t : Option Regex). Appends (simplified_if_defined (simplified_name plain m) t) old new p) is
      (h.at m le (subst (λ (t : Option Regex). IsTrue (holds_of (is_within m plain) t)) (sym is) holds))

pub unfolds-undefined : (definitions : List PlainDefinition) (depth : ℕ) (o : Option Regex) (old new : List PlainNode) (p : Part) → o ≡ None → UnfoldsName definitions depth o old new p
unfolds-undefined definitions depth o old new p e = record { at = λ m le w. absurd (false≢true (ap (holds_of (is_within m definitions)) (sym e) ∙ w)) }

pub unfolds-shallow : (definitions : List PlainDefinition) (depth : ℕ) (o : Option Regex) (old new : List PlainNode) (p : Part) → depth ≡ 0 → UnfoldsName definitions depth o old new p
unfolds-shallow definitions depth o old new p e = record { at = λ m le w. absurd (omega (arith, le, e)) }

pub unfolds-deeper : (definitions : List PlainDefinition) (depth : ℕ) (o : Option Regex) (tree : Regex) (old new : List PlainNode) (p : Part) → o ≡ Some tree → 0 < depth
    → Unfolds definitions (depth - 1) tree old new p → UnfoldsName definitions depth o old new p
unfolds-deeper definitions depth o tree old new p e some h =
    subst (λ (t : Option Regex). UnfoldsName definitions depth t old new p) (sym e) (record { at = λ m le w. h.at m (omega (arith, le, some)) w })

pub unfolds-copied : (definitions : List PlainDefinition) (depth : ℕ) (o : Option Regex) (tree : Regex) (old new nodes : List PlainNode) (p q : Part) → o ≡ Some tree → depth ≤ 32
    → Unfolds definitions 32 tree [] nodes q → new ≡ old ++ nodes → p ≡ q → UnfoldsName definitions depth o old new p
unfolds-copied definitions depth o tree old new nodes p q e few h f g =
    subst (λ (t : Option Regex). UnfoldsName definitions depth t old new p) (sym e) (record {
      at = λ m le w.
          let x = h.at m (omega (arith, le, few)) w in
          record { nodes = f ∙ ap (λ (l : List PlainNode). old ++ l) x.nodes; part = g ∙ x.part };
    })
