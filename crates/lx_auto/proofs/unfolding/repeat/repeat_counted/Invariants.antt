use Rattle.std.proofs.Common.{◌≡◌, ◌++◌, ◌-◌, List}
use Rattle.lx_auto.specs.Unfolded.{Unfolded}
use Rattle.lx_auto.specs.Nodes.{PlainNode, nodes_of}
use Rattle.lx_auto.specs.NodeViews.{nodes_view}
use Rattle.lx_auto.specs.Parts.{part_of}
use Rattle.lx_auto.proofs.Copying.{AreClosing, last_counted}
use Rattle.lx_auto.proofs.unfolding.repeat.repeat_counted.Given as goal

abbrev pub invariant-loop-closed : goal.invariant-loop-closed
invariant-loop-closed l = (base : List PlainNode) (r : Unfolded) → nodes_view l.fn.nodes.items ≡ base ++ nodes_of r → l.body ≡ part_of r
    → AreClosing (last_counted r l.low l.high) base r (l.high - l.closed) l.closed (nodes_view l.nodes.items) l.behind
