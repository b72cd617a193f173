use Rattle.std.proofs.Common.{◌∙◌, sym, ap, arith}
use Rattle.lx_post.specs.Claimed.{Claimed, Drawn}
use Rattle.lx_post.proofs.DrawSteps.{joins}
use Rattle.lx_post.proofs.claims.Claims.join.Goals as goal

pub join_seat-requires : goal.join_seat-requires
join_seat-requires c =
    let seat = c.args.seat.now in
    let other = c.other.inside.seat in
    let shared = c.self.inside.table.shared in
    let here = sym (ap (λ (s : Claimed). s.word) c.self.view_is) in (
      c.requires.these.0 ∙ here,
      ap (λ (d : Drawn). d.word) c.other.view_is ∙ c.requires.these.1 ∙ here,
      c.other.invariant.0,
      omega (arith, c.self.invariant.0),
      joins shared.key.files shared.key.workers seat.id seat.me.0 other.id other.me.0,
    )
