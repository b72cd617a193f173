use Rattle.std.proofs.Common.{◌≡◌, ◌<◌, None, arith, true, rules}
use Rattle.lx_automaton.specs.Automata.{accepted_at}
use Rattle.lx_reach.specs.Contexts.{has_begun}
use Rattle.lx_reach.proofs.Parting.{next_of}
use Rattle.lx_reach.proofs.contexts.next_reading.Goals as goal
use Rattle.lx_reach.proofs.contexts.next_reading.Goals.{else-has_begun-via-then-has_begun+else-accepts, else-has_begun-via-else-has_begun}

pub returns : goal.returns
returns c =
    let m = c.args.tables.now.machine in
    let small : c.args.byte < 256 = (let f = c.ranges.byte.fits in omega arith) in
    let last : has_begun c.args.reading.context ≡ true → accepted_at m c.step-token.result ≡ None = elim c.else-has_begun.branch as (λ _. has_begun c.args.reading.context ≡ true → accepted_at m c.step-token.result ≡ None) [
      | else-has_begun-via-then-has_begun+else-accepts w ↦ λ _. search rules
      | else-has_begun-via-else-has_begun w ↦ λ h. search rules
    ] in
    next_of m c.args.parts c.args.reading.token c.args.reading.whole c.args.reading.context c.requires.reading c.step-token.result c.in_ok-whole.whole c.next_context.result c.args.byte small
    c.step-token.ensures.after c.in_ok-whole.ensures.after c.step-token.ensures.state c.in_ok-whole.ensures.state c.next_context.ensures.state c.next_context.ensures.context last
