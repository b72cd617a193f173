use Rattle.std.proofs.Common.{◌≡◌, ◌++◌, ◌∷◌, [], length, ◌∙◌, ap, arith, append_assoc}
use Rattle.std.proofs.lemmas.List.{map-append, length-map}
use Rattle.lx_auto.specs.NodeViews.{node_view, nodes_view}
use Rattle.lx_auto.specs.Chunks.{binary_node}
use Rattle.lx_auto.proofs.Chunked.{outlined_binary}
use Rattle.lx_auto.proofs.rules.chunking.join_outlined.Goals as goal

pub returns : goal.returns
returns c = λ a b first second.
    let left = c.args.left.outline.items in
    let right = c.args.right.outline.items in
    let node = c.binary_node-node.result in
    let long : c.len.result ≡ length (nodes_view right) =
    (let ok = c.args.right.outline.ok.0 in let l = c.len.ensures in let same = length-map right node_view in omega arith) in
    let items = c.in_ok-push.ensures.items
    ∙ ap (λ l. l ++ node ∷ []) (c.in_ok-extend_from_slice.ensures.items ∙ ap (λ l. left ++ l) c.deref.ensures.value)
    ∙ append_assoc left right (node ∷ []) in
    outlined_binary c.args.operator c.args.left c.args.right (record { outline = c.push.new.self; blocks = c.push_blocks.new.blocks }) a b first second
    (ap nodes_view items ∙ map-append node_view left (right ++ node ∷ [])
    ∙ ap (λ l. nodes_view left ++ l) (map-append node_view right (node ∷ [])
    ∙ ap (λ n. nodes_view right ++ n ∷ []) (c.binary_node-node.ensures ∙ ap (binary_node c.args.operator) long)))
    c.in_ok-push_blocks.ensures
