-- The results for a rule's outline and its blocks are those for its expression.
use Rattle.std.proofs.Common.{◌≡◌, ℕ, ◌+◌, ◌-◌, ◌≤◌, ◌↔◌, inl, inr, Bool, true, List, [], ◌∷◌, ◌++◌, length, map, refl, sym, ◌∙◌, ap, ap₂, subst, arith}
use Rattle.std.specs.Prelude.{reverse}
use Rattle.std.specs.declared.alloc.Global.{Global}
use Rattle.std.specs.declared.vec.Vec.{Vec}
use Rattle.lx_auto.specs.Unfolded.{Unfolded, position_count}
use Rattle.lx_auto.specs.Nodes.{PlainNode, nodes_of}
use Rattle.lx_auto.specs.NodeLeaves.{leaves_in}
use Rattle.lx_auto.specs.NodeViews.{nodes_view}
use Rattle.lx_auto.specs.Marking.{flag, nulls_from, ends_from, reads_from}
use Rattle.lx_auto.specs.Passing.{HasNoEmptyPart, IsSimplified, ended, read_list}
use Rattle.lx_auto.specs.Outlines.{Chunking, one_block, chunked_cat, chunked_alt, chunked_opt, chunked_plus, tree_of, outline, blocks_of, positions_of, read_blocks}
use Rattle.lx_auto.specs.Positions.{CanEnd}
use Rattle.lx_auto.specs.PositionSets.{NumberedRule}
use Rattle.lx_auto.specs.Chunks.{block_nodes, IsSplitOf}
use Rattle.lx_auto.specs.Blocks.{AreBlocks, AreBlocksOver, HaveEnds, last_flag, leaf_total, IsClear}
use Rattle.lx_auto.specs.RuleParts.{IsPartOf, IsPartOver, IsDivided, IsDividedBy, AreReadsOf}
use Rattle.lx_auto.specs.declared.rules.block.Block.{Block}
use Rattle.lx_auto.specs.declared.rules.chunk.Outlined.{Outlined}
use Rattle.lx_auto.specs.declared.rules.rule_part.RulePart.{RulePart}
use Rattle.lx_auto.proofs.BlockRead.{have_ended, blocks_long, HaveNoEmptyPart, tree_total, over_trees}
use Rattle.lx_auto.proofs.Outlined.{outline_no_empty, outline_count, outline_ended, outline_reads, blocks_count}
use Rattle.lx_auto.proofs.Readable.{ended_means, reads_length, reads_apart, reads_mean}
use Rattle.lx_auto.proofs.RuleRead.{ended_at_last, reads_are}

-- the flags that are set anew determine the readable positions
reads_of : (r : NumberedRule) (marks old new : List Bool) (f : Bool) → new ≡ read_list marks r.tree f r.base old → r.base + position_count r.tree ≤ length old →
    AreReadsOf r marks f old new
reads_of r marks old new f list room = record {
  long = ap length list ∙ reads_length marks r.tree f r.base old;
  own = λ q low high.
      let means = reads_mean marks r.tree f r.base old q (omega arith) low high in
      let same : flag new q ≡ flag (read_list marks r.tree f r.base old) q = ap (λ l. flag l q) list in
      ((λ x. means.0 (sym same ∙ x)), (λ x. same ∙ means.1 x));
  below = λ q h. ap (λ l. flag l q) list ∙ reads_apart marks r.tree f r.base old q (inl h);
  above = λ q h. ap (λ l. flag l q) list ∙ reads_apart marks r.tree f r.base old q (inr h);
}

module _ (part : RulePart) (r : NumberedRule) (marks flags ends : List Bool) (own : List (Vec Bool Global)) (is : IsPartOf part r)
    (have : HaveEnds marks part.blocks.items own (length part.blocks.items)) (tell : flags ≡ map last_flag own)
    (to : ends ≡ ends_from part.nulls.items flags 0 (nodes_view part.outline.items) []) where
  outline_ends : (d : IsDividedBy part r.tree r.base) →
      ends ≡ ends_from (nulls_from (nodes_of (outline d.chunking)) []) flags 0 (nodes_of (outline d.chunking)) []
  outline_ends d = to ∙ ap₂ (λ x y. ends_from x flags 0 y []) d.nulls d.outline

  same_ended : flag ends (length ends - 1) ≡ ended marks r.tree r.base
  same_ended = elim is.divided [
    | inl none ↦
        let nil : ends ≡ [] = to ∙ ap (λ l. ends_from part.nulls.items flags 0 (nodes_view l) []) none.1 in
        ap (λ l. flag l (length l - 1)) nil ∙ sym (ap (λ e. ended marks e r.base) none.0)
    | inr d ↦
        ended_at_last flags (outline d.chunking) 0 ends (inr (outline_no_empty d.chunking)) (outline_ends d)
        ∙ outline_ended marks flags d.chunking 0 r.base (have_ended marks flags part.blocks.items own (blocks_of d.chunking) r.base d.blocks have tell)
        ∙ d.equivalent.ends marks r.base
  ]

  pub rule_ended : (flag ends (length ends - 1) ≡ true) ↔ CanEnd (λ p. flag marks p ≡ true) r.tree r.base
  rule_ended = let means = ended_means marks r.tree r.base in ((λ x. means.0 (sym same_ended ∙ x)), (λ x. same_ended ∙ means.1 x))

  pub rule_reads : (f : Bool) (first entered old new : List Bool) → length first ≡ length part.blocks.items →
      entered ≡ reads_from part.nulls.items ends (reverse (nodes_view part.outline.items)) (f ∷ []) (length part.blocks.items) first →
      ((es : List Unfolded) (k : ℕ) → AreBlocks part.blocks.items es k → IsClear old k (k + positions_of es) → new ≡ read_blocks marks entered es 0 k old) →
      part.base + part.count ≤ length old → IsClear old part.base (part.base + part.count) → AreReadsOf r marks f old new
  rule_reads f first entered old new long enter set room clear =
      let base = is.base in
      let count = is.count in
      elim is.divided [
        | inl none ↦
            let bare : IsClear old r.base (r.base + 0) = record { each = λ q low high. absurd (omega arith) } in
            reads_of r marks old new f
            (set [] r.base (subst (λ l. AreBlocks l [] r.base) (sym none.2) tt) bare ∙ sym (ap (λ e. read_list marks e f r.base old) none.0)) (omega arith)
        | inr d ↦
            let c = d.chunking in
            let out = outline c in
            let blocks = blocks_long part.blocks.items (blocks_of c) r.base d.blocks in
            let positions = outline_count c in
            let size = blocks_count c ∙ d.equivalent.count in
            let bare : IsClear old r.base (r.base + positions_of (blocks_of c)) = record { each = λ q low high. clear.each q (omega arith) (omega arith) } in
            let end : length part.blocks.items ≡ 0 + position_count out = omega arith in
            let entered_is : entered ≡ read_list flags out f 0 first =
            enter ∙ ap₂ (λ x y. reads_from x ends (reverse y) (f ∷ []) (length part.blocks.items) first) d.nulls d.outline
            ∙ ap (λ n. reads_from (nulls_from (nodes_of out) []) ends (reverse (nodes_of out)) (f ∷ []) n first) end
            ∙ reads_are flags out 0 ends first f (inr (outline_no_empty c)) (outline_ends d) in
            reads_of r marks old new f
            (set (blocks_of c) r.base d.blocks bare
            ∙ sym (outline_reads marks flags entered c f r.base first old
            (have_ended marks flags part.blocks.items own (blocks_of c) r.base d.blocks have tell) (omega arith) entered_is)
            ∙ d.equivalent.reads marks f r.base old) (omega arith)
      ]

-- a rule that is made of nodes
no_empty_joined : (xs ys : List Unfolded) → HaveNoEmptyPart xs → HaveNoEmptyPart ys → HaveNoEmptyPart (xs ++ ys)
no_empty_joined [] ys h g = g
no_empty_joined (x ∷ xs) ys h g = (h.0, no_empty_joined xs ys h.1 g)

no_empty_blocks : (c : Chunking) → HasNoEmptyPart (tree_of c) → HaveNoEmptyPart (blocks_of c)
no_empty_blocks (one_block s e) h = (h, tt)
no_empty_blocks (chunked_cat a b) h = no_empty_joined (blocks_of a) (blocks_of b) (no_empty_blocks a h.0) (no_empty_blocks b h.1)
no_empty_blocks (chunked_alt a b) h = no_empty_joined (blocks_of a) (blocks_of b) (no_empty_blocks a h.0) (no_empty_blocks b h.1)
no_empty_blocks (chunked_opt a) h = no_empty_blocks a h
no_empty_blocks (chunked_plus a) h = no_empty_blocks a h

none_over : (blocks : List Block) (k : ℕ) → AreBlocksOver blocks [] k → blocks ≡ []
none_over [] k are = refl
none_over (b ∷ bs) k are = absurd are

pub divided_of : (part : RulePart) (o : Outlined) (e : Unfolded) (k : ℕ) → IsSplitOf o e → part.outline.items ≡ o.outline.items →
    part.nulls.items ≡ nulls_from (nodes_view o.outline.items) [] → AreBlocksOver part.blocks.items (block_nodes o.blocks.items) k → IsDivided part e k
divided_of part o e k is out nulls blocks = elim is [
  | inl none ↦ inl (none.0, out ∙ none.1, none_over part.blocks.items k (subst (λ l. AreBlocksOver part.blocks.items (block_nodes l) k) none.2 blocks))
  | inr d ↦
      let c = d.1.chunking in
      let no_empty : HasNoEmptyPart (tree_of c) = d.1.equivalent.no_empty d.0 in
      inr (record {
        chunking = c;
        equivalent = d.1.equivalent;
        outline = ap nodes_view out ∙ d.1.outline;
        nulls = nulls ∙ ap (λ l. nulls_from l []) d.1.outline;
        blocks = over_trees part.blocks.items (blocks_of c) k (no_empty_blocks c no_empty) (subst (λ l. AreBlocksOver part.blocks.items l k) d.1.blocks blocks);
      })
]

pub split_total : (o : Outlined) (e : Unfolded) → IsSplitOf o e → leaf_total (block_nodes o.blocks.items) ≡ position_count e
split_total o e is = elim is [
  | inl none ↦ ap (λ l. leaf_total (block_nodes l)) none.2 ∙ sym (ap position_count none.0)
  | inr d ↦ ap leaf_total d.1.blocks ∙ tree_total (blocks_of d.1.chunking) ∙ blocks_count d.1.chunking ∙ d.1.equivalent.count
]

pub part_over : (part : RulePart) (o : Outlined) (over : List PlainNode) (first : ℕ) (line_end : Bool) → nodes_view part.nodes.items ≡ over →
    ((e : Unfolded) → over ≡ nodes_of e → IsSimplified e → IsSplitOf o e) → part.outline.items ≡ o.outline.items →
    part.nulls.items ≡ nulls_from (nodes_view o.outline.items) [] → AreBlocksOver part.blocks.items (block_nodes o.blocks.items) first →
    part.base ≡ first → part.count ≡ length (leaves_in over) → part.line_end ≡ line_end → IsPartOver part over first line_end
part_over part o over first line_end nodes is out nulls blocks base count end = record {
  nodes = nodes;
  divided = λ e n t. divided_of part o e first (is e n t) out nulls blocks;
  base = base;
  count = count;
  line_end = end;
}
