use Rattle.std.proofs.Common.{◌≤◌, ◌+◌, ◌-◌, ◌++◌, length, ap, ◌∙◌, arith}
use Rattle.lx_auto.proofs.Membership.{clear_places}
use Rattle.lx_auto.proofs.sets.set_steps.push_places_from.Goals as goal

pub stretches-init : goal.stretches-init
stretches-init c =
    let flags = c.args.flags.now in
    let until = c.bare_until-at.result in
    let inside = c.requires.within in
    let later = c.bare_until-at.ensures.later in
    let within : until ≤ length flags = c.bare_until-at.ensures.within (omega arith) in
    record {
      so_far = ap (λ l. c.args.places.now.items ++ l) (clear_places flags (until - c.args.from) c.args.from until (omega arith) within c.bare_until-at.ensures.bare);
      within = within;
    }

pub stretches-preserved : goal.stretches-preserved
stretches-preserved c =
    let flags = c.args.flags.now in
    let end = c.stretches.at + c.min.result in
    let until = c.bare_until-at-in-stretches.result in
    let few = c.min.ensures in
    let more = c.stretches-test.true in
    let later = c.bare_until-at-in-stretches.ensures.later in
    let within : until ≤ length flags = c.bare_until-at-in-stretches.ensures.within (omega arith) in
    record {
      so_far =
          ap (λ l. c.push_places.new.places.items ++ l) (clear_places flags (until - end) end until (omega arith) within c.bare_until-at-in-stretches.ensures.bare)
          ∙ c.in_ok-push_places.ensures ∙ c.stretches.invariant.so_far;
      within = within;
    }
