use Rattle.std.proofs.Common.{◌+◌}
use Rattle.lx_auto.proofs.UnfoldingMeasure.{weight, tree_size}
use Rattle.lx_auto.proofs.unfolding.unfold.+unfold.Given as goal

abbrev pub decreases-unfold : goal.decreases-unfold
decreases-unfold l = weight l.names.now.definitions.now l.depth (tree_size l.expr.now)

abbrev pub decreases-unfold_definition : goal.decreases-unfold_definition
decreases-unfold_definition l = weight l.names.now.definitions.now l.depth 0 + 1
