use Rattle.std.proofs.Common.{◌≡◌, ◌+◌, ◌++◌, ◌∷◌, [], take, sym, ◌∙◌, ap, subst}
use Rattle.std.proofs.lemmas.List.{map_more}
use Rattle.std.specs.Prelude.{reverse}
use Rattle.lx_auto.specs.NodeViews.{node_view, nodes_view}
use Rattle.lx_auto.specs.Chunks.{AreChunks, trees_from}
use Rattle.lx_auto.specs.declared.unfolding.node.Node.{Node}
use Rattle.lx_auto.proofs.Chunked.{trees_more}
use Rattle.lx_auto.proofs.rules.chunking.chunks_of.Goals as goal

pub loop-node-preserved : goal.loop-node-preserved
loop-node-preserved c =
    let nodes = c.args.nodes.now in
    let i = c.loop-node.node-index in
    let here : Node = c.node-item.result in
    let done = nodes_view (take i nodes) in
    let more : nodes_view (take (i + 1) nodes) ≡ done ++ node_view here ∷ []
    = map_more node_view nodes i here c.loop-node-test.true ∙ ap (λ (n : Node). done ++ node_view n ∷ []) (sym c.node-item.is) in
    subst (λ l. AreChunks (reverse c.add_node.new.chunks.items) l) (sym (ap (λ l. trees_from l []) more ∙ trees_more done (node_view here) []))
    (c.in_ok-add_node.ensures (trees_from done []) c.loop-node.invariant)
