use Rattle.std.proofs.Common.{sym, ap, ◌∙◌}
use Rattle.lx_auto.specs.LeafViews.{leaf_view}
use Rattle.lx_auto.specs.Leaves.{one_of_set}
use Rattle.lx_auto.proofs.sets.leaf.are_same.Goals as goal

pub returns-in-Set-Set : goal.returns-in-Set-Set
returns-in-Set-Set c = λ is. ap leaf_view c.in-Set-Set.is-0 ∙ ap one_of_set (c.eq.ensures.same.0 is) ∙ sym (ap leaf_view c.in-Set-Set.is-1)
