-- Operations on expressions whose nodes come last, which add one node or none.
use Rattle.std.proofs.Common.{◌≡◌, ◌∙◌, ℕ, ◌+◌, ◌<◌, ◌⊎◌, inl, inr, min, true, false, ◌&&◌, ◌||◌, List, [], ◌∷◌, ◌++◌, length, refl, ap, ap₂, sym, subst, arith, append_assoc}
use Rattle.std.proofs.lemmas.List.{length-append}
use Rattle.lx_auto.specs.Unfolded.{Unfolded, empty, leaf, cat, alt, opt, plus, nullable}
use Rattle.lx_auto.specs.Nodes.{PlainNode, cat_node, alt_node, opt_node, plus_node, nodes_of}
use Rattle.lx_auto.specs.Simplified.{cat_of, alt_of}
use Rattle.lx_auto.specs.Parts.{part_of}
use Rattle.lx_auto.specs.NodeViews.{Appends, Joins}
use Rattle.lx_auto.specs.declared.unfolding.part.Part.{Part}
use Rattle.lx_auto.proofs.Sizes.{is_full, one, two}

-- each expression but the empty word has a node
full-nodes : (t : Unfolded) → is_full t ≡ true → 0 < length (nodes_of t)
unfolding is_full
full-nodes empty h = absurd (cc)
full-nodes (leaf s) h = omega arith
full-nodes (cat a b) h = let e = two (nodes_of a) (nodes_of b) (cat_node (length (nodes_of b))) in omega arith
full-nodes (alt a b) h = let e = two (nodes_of a) (nodes_of b) (alt_node (length (nodes_of b))) in omega arith
full-nodes (opt a) h = let e = one (nodes_of a) opt_node in omega arith
full-nodes (plus a) h = let e = one (nodes_of a) plus_node in omega arith

pub empty-or_full : (t : Unfolded) → (t ≡ empty) ⊎ (is_full t ≡ true)
unfolding is_full
empty-or_full empty = inl refl
empty-or_full (leaf s) = inr refl
empty-or_full (cat a b) = inr refl
empty-or_full (alt a b) = inr refl
empty-or_full (opt a) = inr refl
empty-or_full (plus a) = inr refl

pub no-size : (p : Part) (t : Unfolded) → p ≡ part_of t → p.size ≡ 0 → t ≡ empty
no-size p t e z = elim (empty-or_full t) [
  | inl h ↦ h
  | inr h ↦ let f : p.size ≡ length (nodes_of t) = ap (λ (q : Part). q.size) e in let g = full-nodes t h in absurd (omega arith)
]

pub some-size : (p : Part) (t : Unfolded) → p ≡ part_of t → (p.size ≡ 0 → ⊥) → is_full t ≡ true
some-size p t e z = elim (empty-or_full t) [
  | inl h ↦ absurd (z (ap (λ (q : Part). q.size) e ∙ ap (λ (u : Unfolded). length (nodes_of u)) h))
  | inr h ↦ h
]

cat_of-full : (a b : Unfolded) → is_full a ≡ true → is_full b ≡ true → cat_of a b ≡ cat a b
unfolding is_full
cat_of-full empty b f g = absurd (cc)
cat_of-full a empty f g = absurd (cc)
cat_of-full a b f g = refl

alt_of-full : (a b : Unfolded) → is_full a ≡ true → is_full b ≡ true → alt_of a b ≡ alt a b
unfolding is_full
alt_of-full empty b f g = absurd (cc)
alt_of-full a empty f g = absurd (cc)
alt_of-full a b f g = refl

appends-along : (t u : Unfolded) (old new : List PlainNode) (p : Part) → t ≡ u → Appends t old new p → Appends u old new p
appends-along t u old new p e h = subst (λ (v : Unfolded). Appends v old new p) e h

-- one more node at the end of nodes that come after others
behind : (base a b : List PlainNode) (n : PlainNode) → (base ++ (a ++ b)) ++ n ∷ [] ≡ base ++ (a ++ (b ++ n ∷ []))
behind base a b n = append_assoc base (a ++ b) (n ∷ []) ∙ ap (λ (l : List PlainNode). base ++ l) (append_assoc a b (n ∷ []))

-- the size of a node above two others, which memory can hold
exact-size : (base a b old new : List PlainNode) (n : PlainNode) → old ≡ base ++ (a ++ b) → new ≡ old ++ n ∷ [] → length new < 18446744073709551616
    → min 18446744073709551615 (length a + length b + 1) ≡ length (a ++ (b ++ n ∷ []))
exact-size base a b old new n e f less =
    let g = ap length e in
    let h = ap length f in
    let i = length-append base (a ++ b) in
    let j = length-append a b in
    let k = length-append old (n ∷ []) in
    let m = two a b n in
    omega arith

pub join-both : (old new : List PlainNode) (left right part : Part) → (left.size ≡ 0 → ⊥) → (right.size ≡ 0 → ⊥) → new ≡ old ++ cat_node right.size ∷ [] → length new < 18446744073709551616
    → part ≡ record { size = min 18446744073709551615 (left.size + right.size + 1); nullable = left.nullable && right.nullable; repeated = false }
    → Joins cat_of old new left right part
join-both old new left right part x y f less is = λ base a b e l r.
    let size : right.size ≡ length (nodes_of b) = ap (λ (q : Part). q.size) r in
    let pushed : new ≡ old ++ cat_node (length (nodes_of b)) ∷ [] = f ∙ ap (λ (k : ℕ). old ++ cat_node k ∷ []) size in
    appends-along (cat a b) (cat_of a b) base new part (sym (cat_of-full a b (some-size left a l x) (some-size right b r y)))
    (record {
      nodes = pushed ∙ ap (λ (l : List PlainNode). l ++ cat_node (length (nodes_of b)) ∷ []) e ∙ behind base (nodes_of a) (nodes_of b) (cat_node (length (nodes_of b)));
      part = is ∙ ap₂ (λ (p q : Part). record { size = min 18446744073709551615 (p.size + q.size + 1); nullable = p.nullable && q.nullable; repeated = false }) l r
          ∙ ap (λ (k : ℕ). record { size = k; nullable = nullable a && nullable b; repeated = false }) (exact-size base (nodes_of a) (nodes_of b) old new (cat_node (length (nodes_of b))) e pushed less);
    })

pub choose-both : (old new : List PlainNode) (left right part : Part) → (left.size ≡ 0 → ⊥) → (right.size ≡ 0 → ⊥) → new ≡ old ++ alt_node right.size ∷ [] → length new < 18446744073709551616
    → part ≡ record { size = min 18446744073709551615 (left.size + right.size + 1); nullable = left.nullable || right.nullable; repeated = false }
    → Joins alt_of old new left right part
choose-both old new left right part x y f less is = λ base a b e l r.
    let size : right.size ≡ length (nodes_of b) = ap (λ (q : Part). q.size) r in
    let pushed : new ≡ old ++ alt_node (length (nodes_of b)) ∷ [] = f ∙ ap (λ (k : ℕ). old ++ alt_node k ∷ []) size in
    appends-along (alt a b) (alt_of a b) base new part (sym (alt_of-full a b (some-size left a l x) (some-size right b r y)))
    (record {
      nodes = pushed ∙ ap (λ (l : List PlainNode). l ++ alt_node (length (nodes_of b)) ∷ []) e ∙ behind base (nodes_of a) (nodes_of b) (alt_node (length (nodes_of b)));
      part = is ∙ ap₂ (λ (p q : Part). record { size = min 18446744073709551615 (p.size + q.size + 1); nullable = p.nullable || q.nullable; repeated = false }) l r
          ∙ ap (λ (k : ℕ). record { size = k; nullable = nullable a || nullable b; repeated = false }) (exact-size base (nodes_of a) (nodes_of b) old new (alt_node (length (nodes_of b))) e pushed less);
    })
