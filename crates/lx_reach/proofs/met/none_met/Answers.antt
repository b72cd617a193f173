use Rattle.lx_reach.proofs.Meeting.{none_met}
use Rattle.lx_reach.proofs.met.none_met.Goals as goal

pub returns-clause-met : goal.returns-clause-met
returns-clause-met c = rw (c.new.ensures.items, c.in_ok-places.ensures.items_if_clones_equal (λ y h. h)) (none_met c.args.count)
