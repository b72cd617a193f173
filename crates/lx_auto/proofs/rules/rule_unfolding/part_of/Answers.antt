use Rattle.std.proofs.Common.{[], length, refl, ◌∙◌, ap, arith, subst}
use Rattle.lx_auto.specs.Marking.{nulls_from}
use Rattle.lx_auto.specs.NodeLeaves.{leaves_in}
use Rattle.lx_auto.specs.NodeViews.{nodes_view}
use Rattle.lx_auto.specs.Chunks.{block_nodes}
use Rattle.lx_auto.specs.Blocks.{AreBlocksOver, leaf_total}
use Rattle.lx_auto.proofs.LeafOrder.{tree_long}
use Rattle.lx_auto.proofs.RuleBlocks.{split_total, part_over}
use Rattle.lx_auto.proofs.rules.rule_unfolding.part_of.Goals as goal

pub number_blocks-requires : goal.number_blocks-requires
number_blocks-requires c =
    let whole = c.requires.whole in
    let outlined = c.in_ok-outlined.outlined in
    let is = c.in_ok-outlined.ensures whole.tree (ap nodes_view c.deref-2.ensures.value ∙ whole.of) whole.simplified in
    let total = ap (λ l. leaf_total (block_nodes l)) c.deref-4.ensures.value ∙ split_total outlined whole.tree is in
    let leaves = ap (λ l. length (leaves_in l)) whole.of ∙ tree_long whole.tree in
    let few = c.requires.few in
    let small = c.requires.small in
    omega arith

pub returns : goal.returns
returns c =
    part_over _ c.in_ok-outlined.outlined (nodes_view c.args.nodes.items) c.args.base c.args.line_end refl
    (λ e n t. c.in_ok-outlined.ensures e (ap nodes_view c.deref-2.ensures.value ∙ n) t)
    refl (c.in_ok-nulls.ensures ∙ ap (λ l. nulls_from (nodes_view l) []) c.deref-3.ensures.value)
    (subst (λ l. AreBlocksOver c.in_ok-blocks.blocks.items (block_nodes l) c.args.base) c.deref-4.ensures.value c.in_ok-blocks.ensures)
    refl (c.count_leaves-count.ensures ∙ ap (λ l. length (leaves_in (nodes_view l))) c.deref.ensures.value) refl
