-- The parts of rules, one rule more.
use Rattle.std.proofs.Common.{◌≡◌, ℕ, zero, suc, ◌+◌, ◌≤◌, ◌<◌, ◌⊎◌, inl, inr, List, [], ◌∷◌, ◌++◌, Some, None, length, map, take, refl, sym, ◌∙◌, ap, subst, arith}
use Rattle.std.specs.Prelude.{slice_get}
use Rattle.lx_ere.specs.Regex.{Regex}
use Rattle.lx_rules.specs.Plain.{PlainDefinition, PlainRule}
use Rattle.lx_rules.specs.declared.rule.Rule.{Rule}
use Rattle.lx_rules.specs.views.Rules.{rule_view}
use Rattle.lx_auto.specs.Unfolded.{Unfolded, position_count}
use Rattle.lx_auto.specs.Counts.{newline_count, count_of_rule, count_of_rules}
use Rattle.lx_auto.specs.Simplified.{simplified_pattern}
use Rattle.lx_auto.specs.Nodes.{PlainNode, nodes_of}
use Rattle.lx_auto.specs.NodeLeaves.{leaves_in}
use Rattle.lx_auto.specs.PositionSets.{NumberedRule, size_of, numbered}
use Rattle.lx_auto.specs.RuleParts.{IsPartOf, ArePartsOf, IsPartOver}
use Rattle.lx_auto.specs.declared.rules.rule_part.RulePart.{RulePart}
use Rattle.lx_auto.proofs.FlagLemmas.{length_joined}
use Rattle.lx_auto.proofs.LeafOrder.{tree_long}
use Rattle.lx_auto.proofs.PositionCounts.{simplified_pattern-count}
use Rattle.lx_auto.proofs.NoEmptyParts.{is_simplified_pattern}

-- the entries of a list with one more
pub slice_get_push : {A : Type 0} → (xs : List A) (x y : A) (i : ℕ) → slice_get (xs ++ x ∷ []) i ≡ Some y → ((i < length xs) × (slice_get xs i ≡ Some y)) ⊎ ((i ≡ length xs) × (y ≡ x))
slice_get_push [] x y zero e = inr (refl, (cc))
slice_get_push [] x y (suc i) e = absurd (cc)
slice_get_push (z ∷ xs) x y zero e = inl ((omega arith), e)
slice_get_push (z ∷ xs) x y (suc i) e = elim (slice_get_push xs x y i e) [ inl h ↦ let l = h.0 in inl ((omega arith), h.1) | inr h ↦ inr (ap suc h.0, h.1) ]

module _ (definitions : List PlainDefinition) where
  tree_of : Regex → Unfolded
  tree_of = simplified_pattern definitions

  size_is : (rule : PlainRule) → position_count (simplified_pattern definitions rule.reading.tree) + newline_count rule.reading.line_end ≡ count_of_rule definitions rule
  size_is rule = ap (λ n. n + newline_count rule.reading.line_end) (simplified_pattern-count definitions rule.reading.tree)

  pub count_push : (rules : List PlainRule) (rule : PlainRule) → count_of_rules definitions (rules ++ rule ∷ []) ≡ count_of_rules definitions rules + count_of_rule definitions rule
  count_push [] rule = omega arith
  count_push (r ∷ rules) rule = let e = count_push rules rule in omega arith

  pub count_front : (rules : List PlainRule) (n : ℕ) → count_of_rules definitions (take n rules) ≤ count_of_rules definitions rules
  count_front rules zero = omega arith
  count_front [] (suc n) = omega arith
  count_front (r ∷ rules) (suc n) = let e = count_front rules n in omega arith

  numbered_push : (base : ℕ) (rules : List PlainRule) (rule : PlainRule) → numbered (simplified_pattern definitions) base (rules ++ rule ∷ []) ≡
      numbered (simplified_pattern definitions) base rules ++ record { rule = rule; tree = simplified_pattern definitions rule.reading.tree; base = base + count_of_rules definitions rules } ∷ []
  numbered_push base [] rule =
      ap (λ (b : ℕ). record { rule = rule; tree = simplified_pattern definitions rule.reading.tree; base = b } ∷ []) (let e : base ≡ base + 0 = omega arith in e)
  numbered_push base (r ∷ rules) rule =
      let next = base + (position_count (simplified_pattern definitions r.reading.tree) + newline_count r.reading.line_end) in
      let size = size_is r in
      let sum : next + count_of_rules definitions rules ≡ base + count_of_rules definitions (r ∷ rules) = omega arith in
      ap (λ (l : List NumberedRule). record { rule = r; tree = simplified_pattern definitions r.reading.tree; base = base } ∷ l)
      (numbered_push next rules rule
      ∙ ap (λ (b : ℕ). numbered (simplified_pattern definitions) next rules ++ record { rule = rule; tree = simplified_pattern definitions rule.reading.tree; base = b } ∷ []) sum)

  pub part_of_rule : (part : RulePart) (rule : PlainRule) (base : ℕ) → IsPartOver part (nodes_of (simplified_pattern definitions rule.reading.tree)) base rule.reading.line_end →
      IsPartOf part (record { rule = rule; tree = simplified_pattern definitions rule.reading.tree; base = base })
  part_of_rule part rule base is = record {
    nodes = is.nodes;
    divided = is.divided (simplified_pattern definitions rule.reading.tree) refl (is_simplified_pattern definitions rule.reading.tree);
    base = is.base;
    count = is.count ∙ tree_long (simplified_pattern definitions rule.reading.tree);
    line_end = is.line_end;
    simplified = is_simplified_pattern definitions rule.reading.tree;
  }

  pub parts_push : (parts : List RulePart) (part : RulePart) (rules : List PlainRule) (rule : PlainRule) →
      ArePartsOf parts (numbered (simplified_pattern definitions) 0 rules) (count_of_rules definitions rules) →
      IsPartOver part (nodes_of (simplified_pattern definitions rule.reading.tree)) (count_of_rules definitions rules) rule.reading.line_end →
      ArePartsOf (parts ++ part ∷ []) (numbered (simplified_pattern definitions) 0 (rules ++ rule ∷ [])) (count_of_rules definitions (rules ++ rule ∷ []))
  parts_push parts part rules rule are is =
      let all = numbered (simplified_pattern definitions) 0 rules in
      let last : NumberedRule = record { rule = rule; tree = simplified_pattern definitions rule.reading.tree; base = 0 + count_of_rules definitions rules } in
      let total = count_push rules rule in
      let size = size_is rule in
      let long = are.long in
      let zero_plus : 0 + count_of_rules definitions rules ≡ count_of_rules definitions rules = omega arith in
      let own : IsPartOf part last =
      part_of_rule part rule (0 + count_of_rules definitions rules)
      (subst (λ b. IsPartOver part (nodes_of (simplified_pattern definitions rule.reading.tree)) b rule.reading.line_end) (sym zero_plus) is) in
      let pushed : ArePartsOf (parts ++ part ∷ []) (all ++ last ∷ []) (count_of_rules definitions (rules ++ rule ∷ [])) = record {
        long = length_joined parts (part ∷ []) ∙ ap (λ n. n + 1) long ∙ sym (length_joined all (last ∷ []));
        each = λ i p r hp hr. elim (slice_get_push parts part p i hp) [
          | inl x ↦ elim (slice_get_push all last r i hr) [
            | inl y ↦ are.each i p r x.1 y.1
            | inr y ↦ let a = x.0 in let b = y.0 in absurd (omega arith)
          ]
          | inr x ↦ elim (slice_get_push all last r i hr) [
            | inl y ↦ let a = x.0 in let b = y.0 in absurd (omega arith)
            | inr y ↦ subst (λ q. IsPartOf q r) (sym x.1) (subst (λ s. IsPartOf part s) (sym y.1) own)
          ]
        ];
        within = λ i r hr. elim (slice_get_push all last r i hr) [
          | inl y ↦ let w = are.within i r y.1 in omega arith
          | inr y ↦
              let end : r.base + size_of r ≡ last.base + size_of last = ap (λ (s : NumberedRule). s.base + size_of s) y.1 in omega arith
        ];
      } in
      subst (λ l. ArePartsOf (parts ++ part ∷ []) l (count_of_rules definitions (rules ++ rule ∷ []))) (sym (numbered_push 0 rules rule)) pushed

  pub no_parts : (parts : List RulePart) → parts ≡ [] → ArePartsOf parts [] 0
  no_parts parts e = record {
    long = ap length e;
    each = λ i p r hp hr. absurd (let no_rule : None ≡ Some r = hr in cc);
    within = λ i r hr. absurd (let no_rule : None ≡ Some r = hr in cc);
  }

  -- the positions of the first rules are at most those of all
  pub front_below : (rules : List Rule) (n : ℕ) → count_of_rules definitions (map rule_view (take n rules)) ≤ count_of_rules definitions (map rule_view rules)
  front_below rules zero = omega arith
  front_below [] (suc n) = omega arith
  front_below (r ∷ rules) (suc n) = let e = front_below rules n in omega arith

  -- a rule's nodes have at most as many leaves as it has positions
  pub leaf_count : (rule : PlainRule) (nodes : List PlainNode) → nodes ≡ nodes_of (simplified_pattern definitions rule.reading.tree) → length (leaves_in nodes) ≤ count_of_rule definitions rule
  leaf_count rule nodes e =
      let long = ap (λ (l : List PlainNode). length (leaves_in l)) e ∙ tree_long (simplified_pattern definitions rule.reading.tree) ∙ simplified_pattern-count definitions rule.reading.tree in
      omega arith

  -- the end of a rule's part
  pub part_end : (part : RulePart) (rule : PlainRule) (base : ℕ) → IsPartOver part (nodes_of (simplified_pattern definitions rule.reading.tree)) base rule.reading.line_end →
      part.base + part.count + newline_count part.line_end ≡ base + count_of_rule definitions rule
  part_end part rule base is =
      let b = is.base in
      let k = is.count ∙ tree_long (simplified_pattern definitions rule.reading.tree) in
      let n = ap newline_count is.line_end in
      let size = size_is rule in
      omega arith
