use Rattle.lx_auto.specs.LeafViews.{leaves_view}
use Rattle.lx_auto.proofs.LeafOrder.{are_leaves}
use Rattle.lx_auto.proofs.sets.leaf.leaves_of.Goals as goal

pub returns : goal.returns
returns c = λ tree_of plain total are.
    are_leaves tree_of plain total c.args.parts.now (leaves_view c.in_ok-leaves.leaves.items) are c.in_ok-leaves.ensures
