use Rattle.lx_automaton.proofs.Meeting.{none_met}
use Rattle.lx_automaton.proofs.state_order.state_order_of.Goals as goal

pub meet_starts-requires-clause-met : goal.meet_starts-requires-clause-met
meet_starts-requires-clause-met c = rw (c.new.ensures.items, c.in_ok-encoded_options.ensures.items_if_clones_equal (λ y h. h)) (none_met c.states.result)
