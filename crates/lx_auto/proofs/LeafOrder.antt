-- The leaves in the nodes of rules are those of their positions, in order.
use Rattle.std.proofs.Common.{◌≡◌, ℕ, zero, suc, ◌+◌, ◌-◌, ◌≤◌, ◌<◌, ◌⊎◌, ◌↔◌, inl, inr, Bool, true, false, IsTrue, List, [], ◌∷◌, ◌++◌, Some, length, refl, sym, ◌∙◌, ap, ap₂, subst, arith, append_assoc, length-append}
use Rattle.std.specs.Prelude.{slice_get}
use Rattle.std.proofs.lemmas.Bool.{cases_lt}
use Rattle.std.proofs.lemmas.Bool.Decides.{eqb_tells}
use Rattle.std.proofs.lemmas.Option.{slice_get_past}
use Rattle.lx_ere.specs.Regex.{Regex}
use Rattle.lx_rules.specs.Plain.{PlainRule}
use Rattle.lx_auto.specs.Unfolded.{Unfolded, empty, leaf, cat, alt, opt, plus, position_count}
use Rattle.lx_auto.specs.Nodes.{PlainNode, nodes_of, cat_node, alt_node, opt_node, plus_node}
use Rattle.lx_auto.specs.Counts.{newline_count}
use Rattle.lx_auto.specs.Positions.{HasByte}
use Rattle.lx_auto.specs.PositionSets.{NumberedRule, newline_of, size_of, numbered, HasRuleByte}
use Rattle.lx_auto.specs.RuleParts.{IsPartOf, ArePartsOf}
use Rattle.lx_auto.specs.SetSteps.{HasSomeByte}
use Rattle.lx_auto.specs.Leaves.{PlainLeaf, one_of_set, newline, leaf_has_at, has_byte, AreLeavesOf}
use Rattle.lx_auto.specs.LeafViews.{leaf_of_end, leaves_of_part, leaves_of_parts}
use Rattle.lx_auto.specs.NodeLeaves.{leaf_in, leaves_in}
use Rattle.lx_auto.specs.declared.rules.rule_part.RulePart.{RulePart}

-- the bytes of the positions from k on are those of the leaves, and none is below k
pub record Stand (Has : ℕ → ℕ → Type 0) (k : ℕ) (leaves : List PlainLeaf) : Type 0 where
  pub each : (i b : ℕ) → (has_byte leaves i b ≡ true) ↔ Has (k + i) b
  pub from : (p b : ℕ) → Has p b → k ≤ p

get_left : (xs ys : List PlainLeaf) (i : ℕ) → i < length xs → slice_get (xs ++ ys) i ≡ slice_get xs i
get_left [] ys i h = absurd (omega arith)
get_left (x ∷ xs) ys zero h = refl
get_left (x ∷ xs) ys (suc i) h = get_left xs ys i (omega arith)

get_right : (xs ys : List PlainLeaf) (i j : ℕ) → j ≡ length xs + i → slice_get (xs ++ ys) j ≡ slice_get ys i
get_right [] ys i j e = let f : j ≡ i = omega arith in ap (λ n. slice_get ys n) f
get_right (x ∷ xs) ys i zero e = absurd (omega arith)
get_right (x ∷ xs) ys i (suc j) e = get_right xs ys i j (omega arith)

not_past : (xs : List PlainLeaf) (i b : ℕ) → length xs ≤ i → has_byte xs i b ≡ true → ⊥
not_past xs i b h t = let e : false ≡ true = sym (ap (λ o. leaf_has_at o b) (slice_get_past xs i h)) ∙ t in absurd (cc)

stand_nil : (Has : ℕ → ℕ → Type 0) (k : ℕ) → ((p b : ℕ) → Has p b → ⊥) → Stand Has k []
stand_nil Has k none = record {
  each = λ i b. ((λ t. absurd (not_past [] i b (omega arith) t)), (λ h. absurd (none (k + i) b h)));
  from = λ p b h. absurd (none p b h);
}

stand_same : (A B : ℕ → ℕ → Type 0) (k : ℕ) (leaves : List PlainLeaf) → ((p b : ℕ) → A p b ↔ B p b) → Stand A k leaves → Stand B k leaves
stand_same A B k leaves same stand = record {
  each = λ i b. ((λ t. (same (k + i) b).0 ((stand.each i b).0 t)), (λ h. (stand.each i b).1 ((same (k + i) b).1 h)));
  from = λ p b h. stand.from p b ((same p b).1 h);
}

pub stand_both : (A B : ℕ → ℕ → Type 0) (k m : ℕ) (xs ys : List PlainLeaf) → m ≡ k + length xs → Stand A k xs → Stand B m ys → Stand (λ p b. A p b ⊎ B p b) k (xs ++ ys)
stand_both A B k m xs ys next a b = record {
  each = λ i c. elim (cases_lt i (length xs)) [
    | inl less ↦
        let e : has_byte (xs ++ ys) i c ≡ has_byte xs i c = ap (λ o. leaf_has_at o c) (get_left xs ys i less) in (
          (λ t. inl ((a.each i c).0 (sym e ∙ t))),
          (λ h. elim h [
            | inl x ↦ e ∙ (a.each i c).1 x
            | inr y ↦ let l = b.from (k + i) c y in absurd (omega arith)
          ]),
        )
    | inr more ↦
        let j = i - length xs in
        let at : i ≡ length xs + j = omega arith in
        let place : m + j ≡ k + i = omega arith in
        let e : has_byte (xs ++ ys) i c ≡ has_byte ys j c = ap (λ o. leaf_has_at o c) (get_right xs ys j i at) in (
          (λ t. inr (subst (λ p. B p c) place ((b.each j c).0 (sym e ∙ t)))),
          (λ h. elim h [
            | inl x ↦ absurd (not_past xs i c more ((a.each i c).1 x))
            | inr y ↦ e ∙ (b.each j c).1 (subst (λ p. B p c) (sym place) y)
          ]),
        )
  ];
  from = λ p c h. elim h [ inl x ↦ a.from p c x | inr y ↦ let l = b.from p c y in omega arith ];
}

leaves_append : (xs ys : List PlainNode) → leaves_in (xs ++ ys) ≡ leaves_in xs ++ leaves_in ys
leaves_append [] ys = refl
leaves_append (x ∷ xs) ys = ap (λ l. leaf_in x ++ l) (leaves_append xs ys) ∙ sym (append_assoc (leaf_in x) (leaves_in xs) (leaves_in ys))

pub append_nil : (xs : List PlainLeaf) → xs ++ [] ≡ xs
append_nil [] = refl
append_nil (x ∷ xs) = ap (λ l. x ∷ l) (append_nil xs)

pub leaves_one : (xs : List PlainNode) (n : PlainNode) → leaf_in n ≡ [] → leaves_in (xs ++ n ∷ []) ≡ leaves_in xs
leaves_one xs n none =
    leaves_append xs (n ∷ []) ∙ ap (λ l. leaves_in xs ++ l) (append_nil (leaf_in n) ∙ none) ∙ append_nil (leaves_in xs)

pub leaves_two : (xs ys : List PlainNode) (n : PlainNode) → leaf_in n ≡ [] → leaves_in (xs ++ (ys ++ n ∷ [])) ≡ leaves_in xs ++ leaves_in ys
leaves_two xs ys n none = leaves_append xs (ys ++ n ∷ []) ∙ ap (λ l. leaves_in xs ++ l) (leaves_one ys n none)

pub tree_long : (e : Unfolded) → length (leaves_in (nodes_of e)) ≡ position_count e
tree_long empty = refl
tree_long (leaf s) = refl
tree_long (cat a b) =
    ap length (leaves_two (nodes_of a) (nodes_of b) (cat_node (length (nodes_of b))) refl)
    ∙ (length-append (leaves_in (nodes_of a)) (leaves_in (nodes_of b)) ∙ ap₂ (λ m n. m + n) (tree_long a) (tree_long b))
tree_long (alt a b) =
    ap length (leaves_two (nodes_of a) (nodes_of b) (alt_node (length (nodes_of b))) refl)
    ∙ (length-append (leaves_in (nodes_of a)) (leaves_in (nodes_of b)) ∙ ap₂ (λ m n. m + n) (tree_long a) (tree_long b))
tree_long (opt a) = ap length (leaves_one (nodes_of a) opt_node refl) ∙ tree_long a
tree_long (plus a) = ap length (leaves_one (nodes_of a) plus_node refl) ∙ tree_long a

pub tree_stand : (e : Unfolded) (k : ℕ) → Stand (HasByte e k) k (leaves_in (nodes_of e))
tree_stand empty k = stand_nil (HasByte empty k) k (λ p b h. h)
tree_stand (leaf s) k = record {
  each = λ i b. one i b;
  from = λ p b h. let e = h.0 in omega arith;
}
  where
    one : (i b : ℕ) → (has_byte (one_of_set s ∷ []) i b ≡ true) ↔ HasByte (leaf s) k (k + i) b
    one zero b = ((λ t. ((omega arith), t)), (λ h. h.1))
    one (suc i) b = ((λ t. absurd (not_past (one_of_set s ∷ []) (suc i) b (omega arith) t)), (λ h. let e = h.0 in absurd (omega arith)))
tree_stand (cat a c) k =
    let long = tree_long a in
    subst (λ l. Stand (HasByte (cat a c) k) k l) (sym (leaves_two (nodes_of a) (nodes_of c) (cat_node (length (nodes_of c))) refl))
    (stand_both (HasByte a k) (HasByte c (k + position_count a)) k (k + position_count a) (leaves_in (nodes_of a)) (leaves_in (nodes_of c)) (omega arith)
    (tree_stand a k) (tree_stand c (k + position_count a)))
tree_stand (alt a c) k =
    let long = tree_long a in
    subst (λ l. Stand (HasByte (alt a c) k) k l) (sym (leaves_two (nodes_of a) (nodes_of c) (alt_node (length (nodes_of c))) refl))
    (stand_both (HasByte a k) (HasByte c (k + position_count a)) k (k + position_count a) (leaves_in (nodes_of a)) (leaves_in (nodes_of c)) (omega arith)
    (tree_stand a k) (tree_stand c (k + position_count a)))
tree_stand (opt a) k = subst (λ l. Stand (HasByte (opt a) k) k l) (sym (leaves_one (nodes_of a) opt_node refl)) (tree_stand a k)
tree_stand (plus a) k = subst (λ l. Stand (HasByte (plus a) k) k l) (sym (leaves_one (nodes_of a) plus_node refl)) (tree_stand a k)

-- the newline of a line end
abbrev HasEnd : Bool → ℕ → ℕ → ℕ → Type 0
HasEnd line_end at p b = IsTrue line_end × (p ≡ at) × (b ≡ 10)

end_stand : (line_end : Bool) (at : ℕ) → Stand (HasEnd line_end at) at (leaf_of_end line_end)
end_stand false at = stand_nil (HasEnd false at) at (λ p b h. absurd (let e = h.0 in cc))
end_stand true at = record {
  each = λ i b. one i b;
  from = λ p b h. let e = h.1 in omega arith;
}
  where
    one : (i b : ℕ) → (has_byte (newline ∷ []) i b ≡ true) ↔ HasEnd true at (at + i) b
    one zero b = (
      (λ t. (refl, (omega arith), (elim (eqb_tells b 10) [ inl y ↦ y.1 | inr n ↦ let no : true ≡ false = sym t ∙ n.0 in absurd (cc) ]))),
      (λ h. elim (eqb_tells b 10) [ inl y ↦ y.0 | inr n ↦ absurd (n.1 h.2) ]),
    )
    one (suc i) b = ((λ t. absurd (not_past (newline ∷ []) (suc i) b (omega arith) t)), (λ h. let e = h.1 in absurd (omega arith)))

end_long : (line_end : Bool) → length (leaf_of_end line_end) ≡ newline_count line_end
end_long true = refl
end_long false = refl

abbrev pub leaves_of_rule : NumberedRule → List PlainLeaf
leaves_of_rule r = leaves_in (nodes_of r.tree) ++ leaf_of_end r.rule.reading.line_end

abbrev pub leaves_of_rules : List NumberedRule → List PlainLeaf
leaves_of_rules [] = []
leaves_of_rules (r ∷ rules) = leaves_of_rule r ++ leaves_of_rules rules

rule_stand : (r : NumberedRule) → Stand (HasRuleByte r) r.base (leaves_of_rule r)
rule_stand r =
    let long = tree_long r.tree in
    stand_both (HasByte r.tree r.base) (HasEnd r.rule.reading.line_end (newline_of r)) r.base (newline_of r)
    (leaves_in (nodes_of r.tree)) (leaf_of_end r.rule.reading.line_end) (omega arith) (tree_stand r.tree r.base) (end_stand r.rule.reading.line_end (newline_of r))

rule_long : (r : NumberedRule) → length (leaves_of_rule r) ≡ size_of r
rule_long r =
    length-append (leaves_in (nodes_of r.tree)) (leaf_of_end r.rule.reading.line_end)
    ∙ ap₂ (λ m n. m + n) (tree_long r.tree) (end_long r.rule.reading.line_end)

some_nil : (q b : ℕ) → HasSomeByte [] q b → ⊥
some_nil q b h = let e = h.at in absurd (cc)

some_cons : (r : NumberedRule) (rules : List NumberedRule) (q b : ℕ) → (HasRuleByte r q b ⊎ HasSomeByte rules q b) ↔ HasSomeByte (r ∷ rules) q b
some_cons r rules q b = (
  (λ x. elim x [
    | inl h ↦ record { place = 0; rule = r; at = refl; has = h }
    | inr h ↦ record { place = suc h.place; rule = h.rule; at = h.at; has = h.has }
  ]),
  (λ h. go h.place h.rule h.at h.has),
)
  where
    go : (place : ℕ) (s : NumberedRule) → slice_get (r ∷ rules) place ≡ Some s → HasRuleByte s q b → HasRuleByte r q b ⊎ HasSomeByte rules q b
    go zero s at has = let e : s ≡ r = cc in inl (subst (λ x. HasRuleByte x q b) e has)
    go (suc place) s at has = inr (record { place = place; rule = s; at = at; has = has })

module _ (tree_of : Regex → Unfolded) where
  rules_stand : (base : ℕ) (plain : List PlainRule) → Stand (HasSomeByte (numbered tree_of base plain)) base (leaves_of_rules (numbered tree_of base plain))
  rules_stand base [] = stand_nil (HasSomeByte []) base some_nil
  rules_stand base (rule ∷ plain) =
      let tree = tree_of rule.reading.tree in
      let r : NumberedRule = record { rule = rule; tree = tree; base = base } in
      let next = base + (position_count tree + newline_count rule.reading.line_end) in
      let rest = numbered tree_of next plain in
      let long = rule_long r in
      stand_same (λ p b. HasRuleByte r p b ⊎ HasSomeByte rest p b) (HasSomeByte (r ∷ rest)) base (leaves_of_rule r ++ leaves_of_rules rest)
      (λ p b. some_cons r rest p b)
      (stand_both (HasRuleByte r) (HasSomeByte rest) base next (leaves_of_rule r) (leaves_of_rules rest) (omega arith) (rule_stand r) (rules_stand next plain))

part_leaves : (part : RulePart) (r : NumberedRule) → IsPartOf part r → leaves_of_part part ≡ leaves_of_rule r
part_leaves part r is = ap₂ (λ l e. leaves_in l ++ leaf_of_end e) is.nodes is.line_end

parts_leaves : (parts : List RulePart) (rules : List NumberedRule) → length parts ≡ length rules →
    ((i : ℕ) (part : RulePart) (r : NumberedRule) → slice_get parts i ≡ Some part → slice_get rules i ≡ Some r → IsPartOf part r) →
    leaves_of_parts parts ≡ leaves_of_rules rules
parts_leaves [] [] long each = refl
parts_leaves [] (r ∷ rules) long each = absurd (omega arith)
parts_leaves (part ∷ parts) [] long each = absurd (omega arith)
parts_leaves (part ∷ parts) (r ∷ rules) long each =
    ap₂ (λ x y. x ++ y) (part_leaves part r (each 0 part r refl refl)) (parts_leaves parts rules (omega arith) (λ i p s hp hs. each (suc i) p s hp hs))

pub are_leaves : (tree_of : Regex → Unfolded) (plain : List PlainRule) (total : ℕ) (parts : List RulePart) (leaves : List PlainLeaf) →
    ArePartsOf parts (numbered tree_of 0 plain) total → leaves ≡ leaves_of_parts parts → AreLeavesOf (numbered tree_of 0 plain) leaves
are_leaves tree_of plain total parts leaves are e =
    let same = e ∙ parts_leaves parts (numbered tree_of 0 plain) are.long are.each in
    let stand = rules_stand tree_of 0 plain in
    subst (λ l. AreLeavesOf (numbered tree_of 0 plain) l) (sym same) (record {
      each = λ q b. let h = stand.each q b in let at : 0 + q ≡ q = omega arith in
          ((λ t. subst (λ p. HasSomeByte (numbered tree_of 0 plain) p b) at (h.0 t)), (λ x. h.1 (subst (λ p. HasSomeByte (numbered tree_of 0 plain) p b) (sym at) x)));
    })
