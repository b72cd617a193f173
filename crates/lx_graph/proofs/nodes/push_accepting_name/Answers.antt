use Rattle.std.proofs.Common.{◌++◌, codes}
use Rattle.std.specs.Prelude.{decimal}
use Rattle.std.proofs.lemmas.Result.{on_ok_weaker}
use Rattle.lx_graph.specs.Graph.{state_name}
use Rattle.lx_graph.proofs.Texts.{two}
use Rattle.lx_graph.proofs.nodes.push_accepting_name.Goals as goal

pub returns : goal.returns
returns c =
    on_ok_weaker c.push_numbered-2.result
    (λ h. two _ _ _ (state_name c.args.state) (codes " [shape=doublecircle, label=\"" ++ decimal c.args.state) c.in_ok-push_numbered.ensures h)
    c.push_numbered-2.ensures
