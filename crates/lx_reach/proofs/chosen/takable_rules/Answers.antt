use Rattle.lx_reach.proofs.Reaching.{marks_targets}
use Rattle.lx_reach.proofs.Taking.{are_taken, no_flags}
use Rattle.lx_reach.proofs.chosen.takable_rules.Goals as goal

pub returns : goal.returns
returns c =
    let m = c.args.tables.now.machine in
    let any = c.in_ok-any.any in
    let one = c.in_ok-one.one in
    let two = c.in_ok-two.two in
    let marks1 = marks_targets m c.args.first c.args.end 0 any.places.items one.places.items (c.in_ok-any.ensures.only, c.in_ok-any.ensures.all) c.in_ok-one.ensures.are in
    let marks2 = marks_targets m c.args.first c.args.end 1 one.places.items two.places.items marks1 c.in_ok-two.ensures.are in
    are_taken c.args.tables.now c.args.first c.args.end one.numbers.items one.places.items two.numbers.items two.places.items c.in_ok-flags.flags.items c.mark.new.flags.items c.mark-2.new.flags.items
    c.in_ok-one.ensures.met c.in_ok-two.ensures.met marks1 marks2 c.mark-2.ensures.long
    (rw (c.in_ok-flags.ensures.items_if_clones_equal (λ y h. h)) (λ r. no_flags _ r)) (rw c.deref.ensures.value at c.mark.ensures.are) (rw c.deref-2.ensures.value at c.mark-2.ensures.are)
