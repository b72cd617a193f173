use Rattle.std.proofs.Common.{◌≡◌, [], refl, sym, ◌∙◌, ap, subst}
use Rattle.std.proofs.lemmas.Result.{on_ok_weaker}
use Rattle.lx_listing.specs.Listings.{Listed, all_lines, listed_of, listing_by}
use Rattle.lx_listing.specs.ListedLaws.{all_listed, part_listed}
use Rattle.lx_listing.specs.Printing.{WrotePrefix, printing, turn_of}
use Rattle.lx_listing.proofs.styled.scan_all_by.Goals as goal

pub returns-in-Ok-clause-ok : goal.returns-in-Ok-clause-ok
returns-in-Ok-clause-ok g c =
    let s = c.args.printer in
    let plan = c.args.plan.now in
    let listed : Listed = record { style = g.L.LineStyle.style s.draft.style; plan = plan } in
    let same : listed_of g.L.LineStyle.style s.draft ≡ listed = ap (λ p. record { style = g.L.LineStyle.style s.draft.style; plan = p }) c.requires.plan in
    let first = ap (λ n. turn_of n s.number) c.requires.file ∙ ap (λ n. turn_of 0 n) c.requires.number in
    on_ok_weaker c.scan_made-order.result.1
    (λ whole. subst (λ t. g.S.LineSink.wrote s.sink (all_lines listed) t.sink) (sym c.into_taker.ensures)
    (all_listed g.S.LineSink.wrote s (λ t. printing (listed_of g.L.LineStyle.style t.draft) t.file t.number t.sink) listed c.in-Ok.order c.scan_made-order.result.0 c.in-Ok.ensures.valid same first c.in-Ok.ensures.ok c.scan_made-order.ensures.follows whole.each))
    c.scan_made-order.ensures.ok

pub returns-in-Ok-clause-part : goal.returns-in-Ok-clause-part
returns-in-Ok-clause-part g c =
    let s = c.args.printer in
    let plan = c.args.plan.now in
    let listed : Listed = record { style = g.L.LineStyle.style s.draft.style; plan = plan } in
    let same : listed_of g.L.LineStyle.style s.draft ≡ listed = ap (λ p. record { style = g.L.LineStyle.style s.draft.style; plan = p }) c.requires.plan in
    let first = ap (λ n. turn_of n s.number) c.requires.file ∙ ap (λ n. turn_of 0 n) c.requires.number in
    subst (λ t. WrotePrefix g.S.LineSink.wrote s.sink (all_lines listed) t.sink) (sym c.into_taker.ensures)
    (part_listed g.S.LineSink.wrote s (λ t. printing (listed_of g.L.LineStyle.style t.draft) t.file t.number t.sink) listed c.in-Ok.order c.scan_made-order.result.0 c.in-Ok.ensures.valid same first c.in-Ok.ensures.ok c.scan_made-order.ensures.follows)

pub returns-in-Err-clause-part : goal.returns-in-Err-clause-part
returns-in-Err-clause-part g c =
    let s = c.args.printer in
    ([], (listing_by (g.L.LineStyle.style s.draft.style) c.args.plan.now, refl), subst (λ t. g.S.LineSink.wrote s.sink [] t.sink) (sym c.in-Err.ensures.back) (g.met.S.LineSink.wrote_nothing s.sink))
