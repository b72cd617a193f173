use Rattle.std.proofs.Common.{◌∙◌, sym, ap, arith}
use Rattle.lx_post.specs.Claimed.{Claimed, Drawn}
use Rattle.lx_post.proofs.DrawSteps.{draws}
use Rattle.lx_post.proofs.claims.Claims.draw.Goals as goal

pub fetch_add-found-requires : goal.fetch_add-found-requires
fetch_add-found-requires c =
    let seat = c.seat.inside.seat in
    let shared = c.self.inside.table.shared in
    let at = ap (λ (d : Drawn). d.word) c.seat.view_is ∙ c.requires.0 ∙ sym (ap (λ (s : Claimed). s.word) c.self.view_is) in
    let own = ap (λ (d : Drawn). d.files) c.seat.view_is ∙ c.requires.1 ∙ sym (ap (λ (s : Claimed). s.files) c.self.view_is) ∙ sym c.self.invariant.2 in
    let fresh = c.seat.invariant.2 in
    (at, omega (arith, c.self.invariant.0), draws shared.table_id.slots shared.key.files shared.key.workers seat.id seat.me own c.seat.invariant.1 (rw c.if-seat.false at fresh))
