use Rattle.std.proofs.Common.{◌≡◌, ◌+◌, ◌∙◌, ap, arith, length, sym, slice_index}
use Rattle.std.proofs.lemmas.List.{get_or_read, length_push}
use Rattle.lx_automaton.proofs.Meeting.{one_met}
use Rattle.lx_automaton.proofs.state_order.meet.Goals as goal

pub returns-clause-met : goal.returns-clause-met
returns-clause-met c =
    let states = c.args.state_order.now.states.items in
    let encoded_options = c.args.state_order.now.encoded_options.items in
    let e : slice_index encoded_options c.args.state ≡ 0 = sym (get_or_read encoded_options c.args.state c.index.result.now c.requires.state c.index.ensures 0) ∙ c.if-index-ne0.false in
    let held = c.push.new.self.ok.0 in
    let longer : length c.push.new.self.items ≡ length states + 1 = ap (λ xs. length xs) c.in_ok-push.ensures.items ∙ length_push states c.args.state in
    let n : c.len-number.result ≡ length states + 1 = omega (arith, c.len-number.ensures) in
    rw c.in_ok-push.ensures.items (one_met states encoded_options c.args.state c.len-number.result c.requires.met c.requires.state e n)
