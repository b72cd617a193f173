use Rattle.std.proofs.Common.{◌≡◌, ◌+◌, ◌∙◌, ap, arith, length, sym, slice_index}
use Rattle.std.proofs.lemmas.List.{get_or_read, length_push}
use Rattle.lx_reach.proofs.Meeting.{one_met}
use Rattle.lx_reach.proofs.met.meet.Goals as goal

pub returns-clause-met : goal.returns-clause-met
returns-clause-met c =
    let states = c.args.met.now.numbers.items in
    let words = c.args.met.now.places.items in
    let e : slice_index words c.args.number ≡ 0 = sym (get_or_read words c.args.number c.index.result.now c.requires.number c.index.ensures 0) ∙ c.if-index-ne0.false in
    let held = c.push.new.self.ok.0 in
    let longer : length c.push.new.self.items ≡ length states + 1 = ap (λ xs. length xs) c.in_ok-push.ensures.items ∙ length_push states c.args.number in
    let n : c.len-place.result ≡ length states + 1 = omega (arith, c.len-place.ensures) in
    rw c.in_ok-push.ensures.items (one_met states words c.args.number c.len-place.result c.requires.met c.requires.number e n)
