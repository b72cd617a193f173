use Rattle.std.proofs.Common.{◌≡◌, ◌∙◌, ◌+◌, ◌++◌, ◌∷◌, [], Bool, false, min, length, ap, arith}
use Rattle.std.proofs.lemmas.List.{map_push, length-map}
use Rattle.lx_auto.specs.NodeViews.{node_view, nodes_view}
use Rattle.lx_auto.specs.Nodes.{cat_node}
use Rattle.lx_auto.specs.declared.unfolding.node.Node.TheVariants.{Cat}
use Rattle.lx_auto.proofs.Closing.{join-both}
use Rattle.lx_auto.proofs.unfolding.part.join.Goals as goal

pub returns : goal.returns
returns c =
    let pushed : nodes_view c.push.new.self.items ≡ nodes_view c.args.nodes.now.items ++ cat_node c.args.right.size ∷ [] = ap nodes_view c.in_ok-push.ensures.items ∙ map_push node_view c.args.nodes.now.items (Cat c.args.right.size) in
    let same : length (nodes_view c.push.new.self.items) ≡ length c.push.new.self.items = length-map c.push.new.self.items node_view in
    let ok = c.push.new.self.ok in
    let small = c.push.new.self.small in
    join-both (nodes_view c.args.nodes.now.items) (nodes_view c.push.new.self.items) c.args.left c.args.right c.node_of_two.result (λ z. let n = c.if-left-eq0.false in omega arith) (λ z. let n = c.if-right-eq0.false in omega arith) pushed (omega arith)
    (c.node_of_two.ensures ∙ ap (λ (b : Bool). record { size = min 18446744073709551615 (c.args.left.size + c.args.right.size + 1); nullable = b; repeated = false }) c.both.ensures)
