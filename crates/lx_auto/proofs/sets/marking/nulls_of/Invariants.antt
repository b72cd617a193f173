use Rattle.std.proofs.Common.{◌≡◌, [], drop}
use Rattle.lx_auto.specs.Marking.{nulls_from}
use Rattle.lx_auto.specs.NodeViews.{nodes_view}
use Rattle.lx_auto.proofs.sets.marking.nulls_of.Given as goal

abbrev pub invariant-loop-node : goal.invariant-loop-node
invariant-loop-node l = nulls_from (nodes_view (drop l.node-index l.nodes)) l.nulls.items ≡ nulls_from (nodes_view l.nodes) []
