use Rattle.std.proofs.Common.{◌≤◌, ◌∙◌, sym, ap, arith}
use Rattle.lx_post.specs.Claimed.{Claimed}
use Rattle.lx_post.proofs.DrawSteps.{counts}
use Rattle.lx_post.proofs.claims.Claims.learn_drawn_once.Goals as goal

pub load-requires : goal.load-requires
load-requires c =
    let one = c.args.one.now in
    let shared = c.self.inside.table.shared in
    let here = sym (ap (λ (s : Claimed). s.word) c.self.view_is) in
    let own = c.requires.this.1 ∙ sym (ap (λ (s : Claimed). s.files) c.self.view_is) ∙ sym c.self.invariant.2 in
    let workers = ap (λ (s : Claimed). s.workers) c.self.view_is in
    let key = c.self.invariant.3 in
    let all : shared.key.workers ≤ one.me.0.parts = omega arith in
    (c.requires.this.0 ∙ here, omega (arith, c.self.invariant.0), counts shared.table_id.slots shared.key.files shared.key.workers one.id one.me own all c.requires.past)
