use Rattle.std.proofs.Common.{◌≡◌, take}
use Rattle.lx_spec.specs.Dictionary.{unreadable_marks}
use Rattle.lx_spec.specs.views.Trees.{trees_view}
use Rattle.lx_spec.proofs.definition_faults.unreadable_of.Given as goal

abbrev pub invariant-loop-tree : goal.invariant-loop-tree
invariant-loop-tree l = l.marks.items ≡ unreadable_marks (trees_view (take l.tree-index l.trees))
