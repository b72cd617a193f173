use Rattle.std.proofs.Common.{[], refl, sym, ◌∙◌, ap, subst}
use Rattle.std.proofs.lemmas.Result.{on_ok_weaker}
use Rattle.lx_listing.specs.Listings.{listing_of, plainly}
use Rattle.lx_listing.specs.ListedLaws.{all_listed, part_listed}
use Rattle.lx_listing.specs.Printing.{WrotePrefix, printing, turn_of}
use Rattle.lx_listing.proofs.printing.scan_all_to.Goals as goal

pub returns-in-Ok-clause-ok : goal.returns-in-Ok-clause-ok
returns-in-Ok-clause-ok g c =
    let s = c.args.printer in
    let plan = c.args.plan.now in
    let first = ap (λ n. turn_of n s.number) c.requires.file ∙ ap (λ n. turn_of 0 n) c.requires.number in
    on_ok_weaker c.scan_made-order.result.1
    (λ whole. subst (λ t. g.S.LineSink.wrote s.sink (listing_of plan) t.sink) (sym c.into_taker.ensures)
    (all_listed g.S.LineSink.wrote s (λ t. printing (plainly t.draft.plan) t.file t.number t.sink) (plainly plan) c.in-Ok.order c.scan_made-order.result.0 c.in-Ok.ensures.valid (ap plainly c.requires.plan) first c.in-Ok.ensures.ok c.scan_made-order.ensures.follows whole.each))
    c.scan_made-order.ensures.ok

pub returns-in-Ok-clause-part : goal.returns-in-Ok-clause-part
returns-in-Ok-clause-part g c =
    let s = c.args.printer in
    let plan = c.args.plan.now in
    let first = ap (λ n. turn_of n s.number) c.requires.file ∙ ap (λ n. turn_of 0 n) c.requires.number in
    subst (λ t. WrotePrefix g.S.LineSink.wrote s.sink (listing_of plan) t.sink) (sym c.into_taker.ensures)
    (part_listed g.S.LineSink.wrote s (λ t. printing (plainly t.draft.plan) t.file t.number t.sink) (plainly plan) c.in-Ok.order c.scan_made-order.result.0 c.in-Ok.ensures.valid (ap plainly c.requires.plan) first c.in-Ok.ensures.ok c.scan_made-order.ensures.follows)

pub returns-in-Err-clause-part : goal.returns-in-Err-clause-part
returns-in-Err-clause-part g c =
    let s = c.args.printer in
    ([], (listing_of c.args.plan.now, refl), subst (λ t. g.S.LineSink.wrote s.sink [] t.sink) (sym c.in-Err.ensures.back) (g.met.S.LineSink.wrote_nothing s.sink))
