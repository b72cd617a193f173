use Rattle.std.proofs.Common.{◌≡◌, ◌+◌, ◌≤◌, [], drop}
use Rattle.lx_auto.specs.Marking.{ends_from}
use Rattle.lx_auto.specs.NodeViews.{nodes_view}
use Rattle.lx_auto.proofs.sets.marking.ends_of.Given as goal

abbrev pub invariant-loop-node : goal.invariant-loop-node
invariant-loop-node l = record {
  so_far : ends_from l.nulls l.marks l.position (nodes_view (drop l.node-index l.nodes)) l.ends.items ≡ ends_from l.nulls l.marks l.first (nodes_view l.nodes) [];
  small : l.position ≤ l.first + l.node-index;
}
