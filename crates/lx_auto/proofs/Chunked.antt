-- Nodes in post-order yield their expression again, and so does its split form.
use Rattle.std.proofs.Common.{◌≡◌, ◌-◌, ◌<◌, inl, inr, Bool, List, [], ◌∷◌, ◌++◌, Some, None, length, refl, sym, ◌∙◌, ap, ap₂, subst, arith, append_assoc, append-nil}
use Rattle.std.proofs.lemmas.List.{map-append}
use Rattle.std.specs.FinSet as set
use Rattle.std.specs.Ordering.{nat_cmp}
use Rattle.lx_auto.specs.Unfolded.{Unfolded, empty, leaf, cat, alt, opt, plus, nullable}
use Rattle.lx_auto.specs.Nodes.{PlainNode, cat_node, alt_node, opt_node, plus_node, nodes_of}
use Rattle.lx_auto.specs.NodeViews.{nodes_view}
use Rattle.lx_auto.specs.Marking.{flag, nulls_from}
use Rattle.lx_auto.specs.Outlines.{AreEquivalentExpressions, one_block, chunked_cat, chunked_alt, chunked_opt, chunked_plus, outline_of_block, blocks_of, tree_of}
use Rattle.lx_auto.specs.Passing.{HasNoEmptyPart, IsSimplified, null_list}
use Rattle.lx_auto.specs.Chunks.{binary_node, binary_expression, unary_node, unary_expression, tree_step, trees_from, block_nodes, IsSingleBlockOf, IsOutlinedOf, IsGrowingChunkOf, IsChunkOf, IsPopped}
use Rattle.lx_auto.specs.declared.rules.chunk.GrowingChunk.{GrowingChunk}
use Rattle.lx_auto.specs.declared.rules.chunk.Outlined.{Outlined}
use Rattle.lx_auto.specs.declared.rules.chunk.BinaryOperator.{BinaryOperator}
use Rattle.lx_auto.specs.declared.rules.chunk.BinaryOperator.TheVariants.{Concatenation, Alternation}
use Rattle.lx_auto.specs.declared.rules.chunk.Chunk.{Chunk}
use Rattle.lx_auto.specs.declared.rules.chunk.UnaryOperator.{UnaryOperator}
use Rattle.lx_auto.specs.declared.rules.chunk.UnaryOperator.TheVariants.{Optional, OneOrMore}
use Rattle.lx_auto.specs.declared.rules.chunk.SingleBlock.{SingleBlock}
use Rattle.lx_auto.proofs.EquivalentExpressions.{equivalent_refl, equivalent_trans, equivalent_unary, equivalent_binary, equivalent_assoc}
use Rattle.lx_auto.proofs.PassResults.{null_length, null_last}
use Rattle.lx_auto.proofs.RuleRead.{no_empty_nulls}

pub outlined_single_block : (w : SingleBlock) (o : Outlined) (s : set.FinSet nat_cmp) (e : Unfolded) → IsSingleBlockOf w e →
    nodes_view o.outline.items ≡ nodes_of (outline_of_block s w.nullable) → block_nodes o.blocks.items ≡ nodes_view w.nodes.items ∷ [] → IsOutlinedOf o e
outlined_single_block w o s e is out blocks = record {
  chunking = one_block s e;
  equivalent = equivalent_refl e;
  outline = out ∙ ap (λ b. nodes_of (outline_of_block s b)) is.null;
  blocks = blocks ∙ ap (λ l. l ∷ []) is.nodes;
}

pub outlined_unary : (operator : UnaryOperator) (o n : Outlined) (a : Unfolded) → IsOutlinedOf o a →
    nodes_view n.outline.items ≡ nodes_view o.outline.items ++ unary_node operator ∷ [] → n.blocks.items ≡ o.blocks.items → IsOutlinedOf n (unary_expression operator a)
outlined_unary Optional o n a is out blocks = record {
  chunking = chunked_opt is.chunking;
  equivalent = equivalent_unary Optional (tree_of is.chunking) a is.equivalent;
  outline = out ∙ ap (λ l. l ++ opt_node ∷ []) is.outline;
  blocks = ap block_nodes blocks ∙ is.blocks;
}
outlined_unary OneOrMore o n a is out blocks = record {
  chunking = chunked_plus is.chunking;
  equivalent = equivalent_unary OneOrMore (tree_of is.chunking) a is.equivalent;
  outline = out ∙ ap (λ l. l ++ plus_node ∷ []) is.outline;
  blocks = ap block_nodes blocks ∙ is.blocks;
}

pub outlined_binary : (operator : BinaryOperator) (l r n : Outlined) (a b : Unfolded) → IsOutlinedOf l a → IsOutlinedOf r b →
    nodes_view n.outline.items ≡ nodes_view l.outline.items ++ (nodes_view r.outline.items ++ binary_node operator (length (nodes_view r.outline.items)) ∷ []) →
    n.blocks.items ≡ l.blocks.items ++ r.blocks.items → IsOutlinedOf n (binary_expression operator a b)
outlined_binary Concatenation l r n a b first second out blocks = record {
  chunking = chunked_cat first.chunking second.chunking;
  equivalent = equivalent_binary Concatenation (tree_of first.chunking) (tree_of second.chunking) a b first.equivalent second.equivalent;
  outline = out ∙ ap₂ (λ x y. x ++ (y ++ cat_node (length y) ∷ [])) first.outline second.outline;
  blocks = ap block_nodes blocks ∙ map-append (λ v. nodes_view v.items) l.blocks.items r.blocks.items ∙ ap₂ (λ x y. x ++ y) first.blocks second.blocks
      ∙ sym (map-append nodes_of (blocks_of first.chunking) (blocks_of second.chunking));
}
outlined_binary Alternation l r n a b first second out blocks = record {
  chunking = chunked_alt first.chunking second.chunking;
  equivalent = equivalent_binary Alternation (tree_of first.chunking) (tree_of second.chunking) a b first.equivalent second.equivalent;
  outline = out ∙ ap₂ (λ x y. x ++ (y ++ alt_node (length y) ∷ [])) first.outline second.outline;
  blocks = ap block_nodes blocks ∙ map-append (λ v. nodes_view v.items) l.blocks.items r.blocks.items ∙ ap₂ (λ x y. x ++ y) first.blocks second.blocks
      ∙ sym (map-append nodes_of (blocks_of first.chunking) (blocks_of second.chunking));
}

pub trees_more : (xs : List PlainNode) (n : PlainNode) (trees : List Unfolded) → trees_from (xs ++ n ∷ []) trees ≡ tree_step n (trees_from xs trees)
trees_more [] n trees = refl
trees_more (x ∷ xs) n trees = trees_more xs n (tree_step x trees)

-- the nodes of an expression make it
pub trees_made : (e : Unfolded) (more : List PlainNode) (trees : List Unfolded) → HasNoEmptyPart e → trees_from (nodes_of e ++ more) trees ≡ trees_from more (e ∷ trees)
trees_made empty more trees s = absurd s
trees_made (leaf b) more trees s = refl
trees_made (cat a b) more trees s =
    ap (λ l. trees_from l trees) (append_assoc (nodes_of a) (nodes_of b ++ cat_node (length (nodes_of b)) ∷ []) more)
    ∙ trees_made a ((nodes_of b ++ cat_node (length (nodes_of b)) ∷ []) ++ more) trees s.0
    ∙ ap (λ l. trees_from l (a ∷ trees)) (append_assoc (nodes_of b) (cat_node (length (nodes_of b)) ∷ []) more)
    ∙ trees_made b (cat_node (length (nodes_of b)) ∷ more) (a ∷ trees) s.1
trees_made (alt a b) more trees s =
    ap (λ l. trees_from l trees) (append_assoc (nodes_of a) (nodes_of b ++ alt_node (length (nodes_of b)) ∷ []) more)
    ∙ trees_made a ((nodes_of b ++ alt_node (length (nodes_of b)) ∷ []) ++ more) trees s.0
    ∙ ap (λ l. trees_from l (a ∷ trees)) (append_assoc (nodes_of b) (alt_node (length (nodes_of b)) ∷ []) more)
    ∙ trees_made b (alt_node (length (nodes_of b)) ∷ more) (a ∷ trees) s.1
trees_made (opt a) more trees s = ap (λ l. trees_from l trees) (append_assoc (nodes_of a) (opt_node ∷ []) more) ∙ trees_made a (opt_node ∷ more) trees s
trees_made (plus a) more trees s = ap (λ l. trees_from l trees) (append_assoc (nodes_of a) (plus_node ∷ []) more) ∙ trees_made a (plus_node ∷ more) trees s

-- the stack after all nodes
pub tree_alone : (e : Unfolded) (nodes : List PlainNode) → nodes ≡ nodes_of e → HasNoEmptyPart e → trees_from nodes [] ≡ e ∷ []
tree_alone e nodes n s = ap (λ l. trees_from l []) (n ∙ sym (append-nil (nodes_of e))) ∙ trees_made e [] [] s

no_tree : (e : Unfolded) (nodes : List PlainNode) → nodes ≡ nodes_of e → e ≡ empty → trees_from nodes [] ≡ []
no_tree e nodes n none = ap (λ l. trees_from l []) (n ∙ ap nodes_of none)

-- the last of the chunks
pub popped_chunk : (e : Unfolded) (nodes : List PlainNode) (rest : List Chunk) (p : Chunk) → nodes ≡ nodes_of e → IsSimplified e →
    IsPopped (trees_from nodes []) rest (Some p) → HasNoEmptyPart e × IsChunkOf p e
popped_chunk e nodes rest p n t h = elim t [
  | inl none ↦ let x : [] ≡ h.0 ∷ h.1 = sym (no_tree e nodes n none) ∙ h.2 in absurd (cc)
  | inr s ↦ let x : e ∷ [] ≡ h.0 ∷ h.1 = sym (tree_alone e nodes n s) ∙ h.2 in let y : h.0 ≡ e = cc in (s, subst (λ x. IsChunkOf p x) y h.3)
]

pub popped_none : (e : Unfolded) (nodes : List PlainNode) (rest : List Chunk) → nodes ≡ nodes_of e → IsSimplified e → IsPopped (trees_from nodes []) rest None → e ≡ empty
popped_none e nodes rest n t h = elim t [
  | inl none ↦ none
  | inr s ↦ let x : e ∷ [] ≡ [] = sym (tree_alone e nodes n s) ∙ h.0 in absurd (cc)
]

-- the flag for all of the nodes: they match the empty word
pub null_single_block : (e : Unfolded) (nodes : List PlainNode) (nulls : List Bool) → HasNoEmptyPart e → nodes ≡ nodes_of e → nulls ≡ nulls_from nodes [] →
    flag nulls (length nulls - 1) ≡ nullable e
null_single_block e nodes nulls s n is =
    let list = is ∙ ap (λ l. nulls_from l []) n ∙ no_empty_nulls [] e 0 s in
    let long = null_length e in
    ap (λ l. flag l (length l - 1)) list ∙ null_last [] e (length (null_list e) - 1) s (omega arith)

-- an expression that has nodes isn't the empty one
pub simplified_no_empty : (e : Unfolded) (nodes : List PlainNode) → nodes ≡ nodes_of e → 0 < length nodes → IsSimplified e → HasNoEmptyPart e
simplified_no_empty e nodes n some t = elim t [
  | inl none ↦ let long : length nodes ≡ 0 = ap length (n ∙ ap nodes_of none) in absurd (omega arith)
  | inr s ↦ s
]

-- an equivalent expression
pub outlined_equivalent : (o : Outlined) (d e : Unfolded) → IsOutlinedOf o d → AreEquivalentExpressions d e → IsOutlinedOf o e
outlined_equivalent o d e is same = record { chunking = is.chunking; equivalent = equivalent_trans (tree_of is.chunking) d e is.equivalent same; outline = is.outline; blocks = is.blocks }

-- a block put in front of a growing chunk
pub growing_prepended : (old new : GrowingChunk) (w : SingleBlock) (a e : Unfolded) → IsGrowingChunkOf old e → IsSingleBlockOf w a → new.operator ≡ old.operator → new.rest ≡ old.rest →
    ((b : Unfolded) → IsSingleBlockOf old.first b → IsSingleBlockOf new.first (binary_expression old.operator a b)) → IsGrowingChunkOf new (binary_expression old.operator a e)
growing_prepended old new w a e is first same rest makes = record {
  one = binary_expression old.operator a is.one;
  other = is.other;
  first = makes is.one is.first;
  rest = subst (λ o. IsOutlinedOf o is.other) (sym rest) is.rest;
  equivalent = subst (λ p. AreEquivalentExpressions (binary_expression p (binary_expression old.operator a is.one) is.other) (binary_expression old.operator a e)) (sym same)
      (equivalent_trans (binary_expression old.operator (binary_expression old.operator a is.one) is.other) (binary_expression old.operator a (binary_expression old.operator is.one is.other)) (binary_expression old.operator a e)
      (equivalent_assoc old.operator a is.one is.other)
      (equivalent_binary old.operator a (binary_expression old.operator is.one is.other) a e (equivalent_refl a) is.equivalent));
}
