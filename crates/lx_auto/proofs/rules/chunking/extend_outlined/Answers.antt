use Rattle.std.proofs.Common.{◌++◌, ◌∷◌, [], refl, ◌∙◌, ap}
use Rattle.std.proofs.lemmas.List.{map-append}
use Rattle.lx_auto.specs.NodeViews.{node_view, nodes_view}
use Rattle.lx_auto.proofs.Chunked.{outlined_unary}
use Rattle.lx_auto.proofs.rules.chunking.extend_outlined.Goals as goal

pub returns : goal.returns
returns c = λ a is.
    let old = c.args.body.outline.items in
    outlined_unary c.args.operator c.args.body (record { outline = c.push.new.self; blocks = c.args.body.blocks }) a is
    (ap nodes_view c.in_ok-push.ensures.items ∙ map-append node_view old (c.unary_node.result ∷ [])
    ∙ ap (λ n. nodes_view old ++ n ∷ []) c.unary_node.ensures)
    refl
