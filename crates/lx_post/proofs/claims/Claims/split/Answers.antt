use Rattle.std.proofs.Common.{◌∙◌, sym, ap, arith}
use Rattle.lx_post.specs.declared.draw_rule.SeatView.{SeatView}
use Rattle.lx_post.specs.Claimed.{Claimed}
use Rattle.atomic_table.specs.Table.{Me}
use Rattle.lx_post.proofs.DrawSteps.{splits}
use Rattle.lx_post.proofs.claims.Claims.split.Goals as goal

pub split_seat-other-requires : goal.split_seat-other-requires
split_seat-other-requires c =
    let seat = c.args.seat.now in
    let shared = c.self.inside.table.shared in
    let here = sym (ap (λ (s : Claimed). s.word) c.self.view_is) in
    (c.requires.fresh.0 ∙ here, omega (arith, c.self.invariant.0), splits shared.key.files shared.key.workers seat.id seat.me.0 c.requires.parts (ap (λ (m : Me (Unit {0}) SeatView). m.0.past) c.requires.fresh.1))
