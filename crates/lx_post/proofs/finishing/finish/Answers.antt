use Rattle.std.proofs.Common.{◌≡◌, ◌<◌, List, inr, sym, ap, subst, arith}
use Rattle.std.specs.Prelude.{Any}
use Rattle.lx_post.specs.Posted.{Sent, Taken}
use Rattle.lx_post.proofs.finishing.finish.Goals as goal

pub returns-then-not-have_all_workers-clause-unfinished : goal.returns-then-not-have_all_workers-clause-unfinished
returns-then-not-have_all_workers-clause-unfinished g c =
    let workers = ap (λ (p : Taken _). p.workers) c.pass.view_is in
    let not = c.if-not-have_all_workers.true in
    inr (λ h.
    let t = c.have_all_workers.ensures.1 (λ w lt. let lt' : w < c.args.pass.workers = omega arith in subst (λ (l : List (Sent _)). Any (λ (p : Sent _). p.worker ≡ w) l) (sym c.as_slice.ensures.value) (h w lt')) in
    cc)

pub returns-clause-every_worker : goal.returns-clause-every_worker
returns-clause-every_worker g c w lt =
    let workers = ap (λ (p : Taken _). p.workers) c.pass.view_is in
    let lt' : w < c.pass.inside.workers = omega arith in
    subst (λ (l : List (Sent _)). Any (λ (p : Sent _). p.worker ≡ w) l) c.as_slice.ensures.value (c.have_all_workers.ensures.0 c.if-not-have_all_workers.false w lt')
