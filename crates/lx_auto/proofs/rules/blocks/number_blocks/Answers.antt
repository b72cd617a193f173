use Rattle.std.proofs.Common.{◌≡◌, ◌+◌, ◌++◌, ◌∷◌, [], length, take, sym, ◌∙◌, ap, arith, subst}
use Rattle.std.proofs.lemmas.List.{map_more}
use Rattle.std.specs.declared.alloc.Global.{Global}
use Rattle.std.specs.declared.vec.Vec.{Vec}
use Rattle.lx_auto.specs.Blocks.{IsBlockOver, AreBlocksOver, leaf_total}
use Rattle.lx_auto.specs.NodeLeaves.{leaves_in}
use Rattle.lx_auto.specs.NodeViews.{nodes_view}
use Rattle.lx_auto.specs.Chunks.{block_nodes}
use Rattle.lx_auto.specs.declared.unfolding.node.Node.{Node}
use Rattle.lx_auto.proofs.BlockRead.{over_more, total_more, total_front}
use Rattle.lx_auto.proofs.rules.blocks.number_blocks.Goals as goal

pub block_of-requires : goal.block_of-requires
block_of-requires c =
    let nodes = c.args.nodes.now in
    let i = c.loop-i.i in
    let here : Vec Node Global = c.index-nodes-i.result in
    let done = block_nodes (take i nodes) in
    let more : block_nodes (take (i + 1) nodes) ≡ done ++ nodes_view here.items ∷ []
    = map_more (λ v. nodes_view v.items) nodes i here c.loop-i-test.true ∙ ap (λ (v : Vec Node Global). done ++ nodes_view v.items ∷ []) (sym c.index-nodes-i.is) in
    let all = total_front nodes (i + 1) in
    let sum = ap leaf_total more ∙ total_more done (nodes_view here.items) in
    let next = c.loop-i.invariant.next in
    let small = c.requires in
    let same = ap (λ l. length (leaves_in (nodes_view l))) c.deref.ensures.value in
    record { small = omega arith }

pub loop-i-preserved : goal.loop-i-preserved
loop-i-preserved c =
    let nodes = c.args.nodes.now in
    let base = c.args.base in
    let i = c.loop-i.i in
    let here : Vec Node Global = c.index-nodes-i.result in
    let done = block_nodes (take i nodes) in
    let more : block_nodes (take (i + 1) nodes) ≡ done ++ nodes_view here.items ∷ []
    = map_more (λ v. nodes_view v.items) nodes i here c.loop-i-test.true ∙ ap (λ (v : Vec Node Global). done ++ nodes_view v.items ∷ []) (sym c.index-nodes-i.is) in
    let sum = ap leaf_total more ∙ total_more done (nodes_view here.items) in
    let old = c.loop-i.blocks.items in
    let block = c.in_ok-block.block in
    let is : IsBlockOver block (nodes_view here.items) c.loop-i.next = subst (λ l. IsBlockOver block (nodes_view l) c.loop-i.next) c.deref.ensures.value c.in_ok-block.ensures in
    let count = is.count in
    let next = c.loop-i.invariant.next in
    record {
      blocks = subst (λ l. AreBlocksOver l (block_nodes (take (i + 1) nodes)) base) (sym c.in_ok-push.ensures.items)
          (subst (λ l. AreBlocksOver (old ++ block ∷ []) l base) (sym more)
          (over_more old done block (nodes_view here.items) base c.loop-i.next c.loop-i.invariant.blocks next is));
      next = omega arith;
    }
